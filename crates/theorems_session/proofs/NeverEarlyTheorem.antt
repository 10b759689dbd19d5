-- A run in which no block was closed early: every block but the last is full, and the finished file is the writer's.
-- Assumes nothing.
use mathlib.Core.Path.{◌≡◌, refl, sym, ap, ◌∙◌, subst}
use mathlib.Core.Logic.{◌⊎◌, inl, inr}
use mathlib.Core.List.Memᴰ
use mathlib.Core.List.{List, [], ◌∷◌, ◌++◌, append-nil, Memᴰ}
use Prim.Native.Nat.{ℕ, ◌≤◌}
use native.Mathlib.Omega.{arith}
use lib.ListN.{length}
use Rattle.outcome.specs.Outcome.{answer}
use Rattle.layout.specs.Blocks.{records_bytes}
use Rattle.file_encoder.proofs.FitLaws.{fits⁻¹}
use Rattle.writer.specs.Write.{write_of}
use Rattle.session_value.specs.Stage.{Draft, Stage, afresh, begun, finished, open_block, draft_blocks, draft_file}
use Rattle.session_value.specs.Steps.{close_open, add_open, add_to}
use Rattle.session_value.specs.Held.{SoundDraft, Sound}
use Rattle.session_value.proofs.DraftLaws.{by_full, full_some, blocks_add_open, blocks_close}
use Rattle.theorems_session.specs.Run.{Run, run_afresh, run_begin, run_add, run_close, run_finish, run_grown}
use Rattle.theorems_session.specs.SessionByRules.{NoneEarly}
use Rattle.theorems_session.specs.EarlyRun.{LastFull, OpenFull, NeverEarly, ClosedFull, Unclosed}
use Rattle.theorems_session.proofs.LastLaws.{last_or_none}
use Rattle.theorems_session.proofs.StageCases.{begun_injective, afresh_not_begun, finished_not_begun}
use Rattle.theorems_session.proofs.AnsweredSteps.{empty_draft, BeginAnswered, AddAnswered, CloseAnswered, FinishAnswered}
use Rattle.theorems_session.proofs.AnsweredSteps.{begin⁻¹, add⁻¹, close⁻¹, finish⁻¹}
use Rattle.theorems_session.proofs.RunTheorems.{run_sound, run_finished}

-- ---- blocks of which every one but the last is full

-- the last may be any
early_last : (n : ℕ) (bs : List (List (List ℕ))) (b c : List (List ℕ)) → NoneEarly n (bs ++ (b ∷ [])) → NoneEarly n (bs ++ (c ∷ []))
unfolding NoneEarly
early_last n [] b c h = tt
early_last n (x ∷ []) b c h = (h.0, tt)
early_last n (x ∷ y ∷ bs) b c h = (h.0, early_last n (y ∷ bs) b c h.1)

-- behind a full one there may be one more
early_more : (n : ℕ) (bs : List (List (List ℕ))) (b c : List (List ℕ)) → NoneEarly n (bs ++ (b ∷ [])) → length b ≡ n
    → NoneEarly n ((bs ++ (b ∷ [])) ++ (c ∷ []))
unfolding NoneEarly
early_more n [] b c h full = (full, tt)
early_more n (x ∷ []) b c h full = (h.0, (full, tt))
early_more n (x ∷ y ∷ bs) b c h full = (h.0, early_more n (y ∷ bs) b c h.1 full)

-- one block alone
early_one : (n : ℕ) (c : List (List ℕ)) → NoneEarly n (c ∷ [])
unfolding NoneEarly
early_one n c = tt

-- one more behind blocks of which the last, if there is one, is full
early_behind : (n : ℕ) (bs : List (List (List ℕ))) (c : List (List ℕ)) → NoneEarly n bs
    → ((earlier : List (List (List ℕ))) (last : List (List ℕ)) → bs ≡ earlier ++ (last ∷ []) → length last ≡ n) → NoneEarly n (bs ++ (c ∷ []))
early_behind n bs c h full = go (last_or_none bs)
  where
    go : (bs ≡ []) ⊎ ((earlier : List (List (List ℕ))) × ((last : List (List ℕ)) × (bs ≡ earlier ++ (last ∷ [])))) → NoneEarly n (bs ++ (c ∷ []))
    go (inl e) = subst (λ (l : List (List (List ℕ))). NoneEarly n (l ++ (c ∷ []))) (sym e) (early_one n c)
    go (inr p) =
        subst (λ (l : List (List (List ℕ))). NoneEarly n (l ++ (c ∷ []))) (sym p.1.1)
        (early_more n p.0 p.1.0 c (subst (NoneEarly n) p.1.1 h) (full p.0 p.1.0 p.1.1))

-- ---- a record more

-- the blocks then, where the open block is full, has room, and where none is open
module _ (d : Draft) (r : List ℕ) (h : NoneEarly d.per_block (draft_blocks d)) where
  more_full : SoundDraft d → d.per_block ≤ length d.current → NoneEarly d.per_block (draft_blocks (add_open (close_open d) r))
  unfolding close_open draft_blocks open_block
  more_full s full =
      let few = s.current_no_fuller in
      let same = blocks_close d (full_some d s full) in
      subst (NoneEarly d.per_block) (sym (blocks_add_open (close_open d) r))
      (early_more d.per_block d.closed d.current _ (subst (NoneEarly d.per_block) (sym same ∙ closed) h) (omega arith))
    where
      closed : draft_blocks (close_open d) ≡ d.closed ++ (d.current ∷ [])
      closed = append-nil (d.closed ++ (d.current ∷ []))

  more_open : (current : List (List ℕ)) → d.current ≡ current
      → (d.current ≡ [] → (earlier : List (List (List ℕ))) (last : List (List ℕ)) → d.closed ≡ earlier ++ (last ∷ []) → length last ≡ d.per_block)
      → NoneEarly d.per_block (draft_blocks (add_open d r))
  unfolding draft_blocks open_block
  more_open [] e behind =
      subst (NoneEarly d.per_block) (sym (blocks_add_open d r))
      (early_behind d.per_block d.closed _
      (subst (NoneEarly d.per_block) (ap (λ (c : List (List ℕ)). d.closed ++ open_block c) e ∙ append-nil d.closed) h) (behind e))
  more_open (c ∷ current) e behind =
      subst (NoneEarly d.per_block) (sym (blocks_add_open d r))
      (early_last d.per_block d.closed (c ∷ current) _
      (subst (NoneEarly d.per_block) (ap (λ (l : List (List ℕ)). d.closed ++ open_block l) e) h))

add_none_early : (d : Draft) (r : List ℕ) → SoundDraft d → NoneEarly d.per_block (draft_blocks d) → LastFull (begun d)
    → NoneEarly d.per_block (draft_blocks (add_to d r))
unfolding LastFull add_to
add_none_early d r s h behind =
    by_full d (λ c. NoneEarly d.per_block (draft_blocks (add_open c r))) (λ full. more_full d r h s full)
    (λ unfull. more_open d r h d.current refl (λ none earlier last e. omega (arith, behind d refl none earlier last e)))

-- ---- the run

-- every block of a stage but the last is full
unfoldable pub StageNoneEarly : Stage → Type 0
StageNoneEarly afresh = Unit {0}
StageNoneEarly (begun d) = NoneEarly d.per_block (draft_blocks d)
StageNoneEarly (finished d) = NoneEarly d.per_block (draft_blocks d)

begin_early : (metadata : List ℕ) (per_block per_index room : ℕ) (next : Stage) → BeginAnswered metadata per_block per_index room next → StageNoneEarly next
unfolding StageNoneEarly empty_draft draft_blocks open_block NoneEarly
begin_early metadata per_block per_index room next a = subst StageNoneEarly (sym a.leads) tt

same_per_block : (d : Draft) (r : List ℕ) → (add_to d r).per_block ≡ d.per_block
unfolding add_to add_open close_open
same_per_block d r = by_full d (λ c. c.per_block ≡ d.per_block) (λ h. refl) (λ h. refl)

add_early : (stage : Stage) (r : List ℕ) (room : ℕ) (next : Stage) → Sound room stage → StageNoneEarly stage → LastFull stage
    → AddAnswered stage r room next → StageNoneEarly next
unfolding StageNoneEarly Sound
add_early stage r room next s h behind a =
    let d = a.draft in
    subst StageNoneEarly (sym a.leads)
    (subst (λ (n : ℕ). NoneEarly n (draft_blocks (add_to d r))) (sym (same_per_block d r))
    (add_none_early d r (subst (Sound room) a.from s).0 (subst StageNoneEarly a.from h) (subst LastFull a.from behind)))

close_early : (stage next : Stage) → StageNoneEarly stage → CloseAnswered stage next → StageNoneEarly next
unfolding StageNoneEarly close_open
close_early stage next h a =
    subst StageNoneEarly (sym a.leads)
    (subst (NoneEarly a.draft.per_block) (sym (blocks_close a.draft a.some)) (subst StageNoneEarly a.from h))

finish_early : (stage : Stage) (room : ℕ) (next : Stage) → StageNoneEarly stage → FinishAnswered stage room next → StageNoneEarly next
unfolding StageNoneEarly
finish_early stage room next h a = subst StageNoneEarly (sym a.leads) (subst StageNoneEarly a.from h)

pub run_none_early : {room : ℕ} {stage : Stage} {added : List (List ℕ)} (run : Run room stage added) → NeverEarly run → StageNoneEarly stage
unfolding NeverEarly StageNoneEarly
run_none_early (run_afresh room) never = tt
run_none_early (run_begin {room} {stage} {next} metadata per_block per_index run bytes e) never =
    begin_early metadata per_block per_index room next (begin⁻¹ stage metadata per_block per_index room next e)
run_none_early (run_add {room} {stage} {next} r run bytes e) never =
    add_early stage r room next (run_sound run) (run_none_early run never.0) never.1 (add⁻¹ stage r room next e)
run_none_early (run_close {room} {stage} {next} run e) never = close_early stage next (run_none_early run never) (close⁻¹ stage next e)
run_none_early (run_finish {room} {stage} {next} run e) never = finish_early stage room next (run_none_early run never) (finish⁻¹ stage room next e)
run_none_early (run_grown more run) never = run_none_early run never

-- the finished file is the writer's, for the records added
pub run_writers : {room : ℕ} {d : Draft} {added : List (List ℕ)} (run : Run room (finished d) added) → NeverEarly run
    → write_of d.metadata (records_bytes added) d.per_block d.per_index room ≡ answer (draft_file d)
unfolding StageNoneEarly Sound
run_writers {room} {d} {added} run never =
    let told = run_finished run in
    subst (λ (rs : List (List ℕ)). write_of d.metadata (records_bytes rs) d.per_block d.per_index room ≡ answer (draft_file d)) told.1
    (told.0.writers (run_none_early run never) room (fits⁻¹ room (length (draft_file d)) (run_sound run).2).0)

-- ---- only full blocks were closed

-- every closed block of a stage is full
unfoldable AllFull : Stage → Type 0
AllFull stage = (d : Draft) → stage ≡ begun d → (b : List (List ℕ)) → Memᴰ b d.closed → length b ≡ d.per_block

-- what holds of its draft
full_of : (stage : Stage) (c : Draft) → stage ≡ begun c → ((b : List (List ℕ)) → Memᴰ b c.closed → length b ≡ c.per_block) → AllFull stage
unfolding AllFull
full_of stage c e h d f = subst (λ (x : Draft). (b : List (List ℕ)) → Memᴰ b x.closed → length b ≡ x.per_block) (begun_injective c d (sym e ∙ f)) h

-- one more full block
full_more : (n : ℕ) (bs : List (List (List ℕ))) (c : List (List ℕ)) → ((b : List (List ℕ)) → Memᴰ b bs → length b ≡ n) → length c ≡ n
    → (b : List (List ℕ)) → Memᴰ b (bs ++ (c ∷ [])) → length b ≡ n
full_more n bs c h full b m = go (Memᴰ.append_cases bs m)
  where
    go : Memᴰ b bs ⊎ Memᴰ b (c ∷ []) → length b ≡ n
    go (inl i) = h b i
    go (inr i) = ap length (Memᴰ.eq_of_singleton i) ∙ full

add_full : (d : Draft) (r : List ℕ) → SoundDraft d → ((b : List (List ℕ)) → Memᴰ b d.closed → length b ≡ d.per_block)
    → (b : List (List ℕ)) → Memᴰ b (add_to d r).closed → length b ≡ (add_to d r).per_block
unfolding add_to add_open close_open
add_full d r s h =
    by_full d (λ (c : Draft). (b : List (List ℕ)) → Memᴰ b c.closed → length b ≡ c.per_block)
    (λ full. full_more d.per_block d.closed d.current h (let few = s.current_no_fuller in omega arith)) (λ unfull. h)

run_all_full : {room : ℕ} {stage : Stage} {added : List (List ℕ)} (run : Run room stage added) → ClosedFull run → AllFull stage
unfolding ClosedFull AllFull OpenFull Sound empty_draft close_open
run_all_full (run_afresh room) full = λ d e. absurd (afresh_not_begun d e)
run_all_full (run_begin {room} {stage} {next} metadata per_block per_index run bytes e) full =
    full_of next (empty_draft metadata per_block per_index) (begin⁻¹ stage metadata per_block per_index room next e).leads
    (λ b m. absurd (Memᴰ.not-nil m))
run_all_full (run_add {room} {stage} {next} r run bytes e) full =
    let a = add⁻¹ stage r room next e in
    full_of next (add_to a.draft r) a.leads
    (add_full a.draft r (subst (Sound room) a.from (run_sound run)).0 (run_all_full run full a.draft a.from))
run_all_full (run_close {room} {stage} {next} run e) full =
    let a = close⁻¹ stage next e in
    full_of next (close_open a.draft) a.leads
    (full_more a.draft.per_block a.draft.closed a.draft.current (run_all_full run full.0 a.draft a.from)
    (full.1 a.draft a.from))
run_all_full (run_finish {room} {stage} {next} run e) full =
    λ d f. absurd (finished_not_begun _ d (sym (finish⁻¹ stage room next e).leads ∙ f))
run_all_full (run_grown more run) full = run_all_full run full

-- then no record was added behind one closed early
pub closed_full⇒never_early : {room : ℕ} {stage : Stage} {added : List (List ℕ)} (run : Run room stage added) → ClosedFull run → NeverEarly run
unfolding ClosedFull NeverEarly AllFull LastFull
closed_full⇒never_early (run_afresh room) full = tt
closed_full⇒never_early (run_begin metadata per_block per_index run bytes e) full = tt
closed_full⇒never_early (run_add r run bytes e) full = (
  closed_full⇒never_early run full,
  λ d f none earlier last g.
      let whole = run_all_full run full d f last (subst (Memᴰ last) (sym g) (Memᴰ.append_right earlier (Memᴰ.head refl))) in omega arith,
)
closed_full⇒never_early (run_close run e) full = closed_full⇒never_early run full.0
closed_full⇒never_early (run_finish run e) full = closed_full⇒never_early run full
closed_full⇒never_early (run_grown more run) full = closed_full⇒never_early run full

-- and so it is where none was closed by a step of its own
pub unclosed⇒closed_full : {room : ℕ} {stage : Stage} {added : List (List ℕ)} (run : Run room stage added) → Unclosed run → ClosedFull run
unfolding Unclosed ClosedFull
unclosed⇒closed_full (run_afresh room) none = tt
unclosed⇒closed_full (run_begin metadata per_block per_index run bytes e) none = tt
unclosed⇒closed_full (run_add r run bytes e) none = unclosed⇒closed_full run none
unclosed⇒closed_full (run_close run e) none = absurd none
unclosed⇒closed_full (run_finish run e) none = unclosed⇒closed_full run none
unclosed⇒closed_full (run_grown more run) none = unclosed⇒closed_full run none
