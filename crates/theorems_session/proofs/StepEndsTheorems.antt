-- Each number that a step gives is given exactly for its reason.
-- Assumes nothing.
use mathlib.Core.Path.{◌≡◌, refl, sym, ap, ◌∙◌, subst}
use mathlib.Core.Logic.{◌≢◌, ◌↔◌, ◌⊎◌, inl, inr}
use mathlib.Core.Bool.{Bool, true, false, false≢true}
use mathlib.Core.List.{List, [], ◌∷◌, ◌++◌}
use Prim.Native.Nat.{ℕ, ◌^◌}
use native.Mathlib.Omega.{arith}
use lib.Dec.{leb, ltb}
use lib.ListN.{length}
use borrow.Author.Tests.{leb-true, le-leb, lt-leb, ltb-true, ltb-false}
use Rattle.lists.specs.Groups.{last_or}
use Rattle.byte_string.specs.Order.{at_most}
use Rattle.byte_string.proofs.OrderLaws.{nil_at_most}
use Rattle.outcome.specs.Outcome.{Outcome, number_of, ◌>>=◌, ◌>>◌, must}
use Rattle.outcome.proofs.OutcomeLaws.{kept, broken}
use Rattle.header.specs.Metadata.{Metadata, is_metadata}
use Rattle.header.proofs.MetadataLaws.{is_metadata⇒Metadata, Metadata⇒is_metadata}
use Rattle.layout.specs.File.{blocks_start, counts_fit, file_fits}
use Rattle.file_encoder.proofs.CountsLaws.{counts_asked, counts⁻¹}
use Rattle.file_encoder.proofs.FitLaws.{fits, fits⁻¹}
use Rattle.theorems_layout.proofs.IndexNames.{last_or_append}
use Rattle.theorems_write.specs.WrittenByRules.{CountsFit}
use Rattle.session_value.specs.Stage.{Draft, Stage, afresh, begun, finished, draft_records, data_end, draft_file}
use Rattle.session_value.specs.Steps.{is_afresh, draft_of, add_to, is_next, begin_of, add_of, close_of, finish_of}
use Rattle.theorems_session.specs.StepEnds.{FitsIn, Exceeds, NotBefore, NotBegun}
use Rattle.theorems_session.specs.StepEnds.{BeginEnds, begin_again, begin_counts, begin_no_metadata, begin_too_long, begin_done}
use Rattle.theorems_session.specs.StepEnds.{AddEnds, add_not_begun, add_falls, add_too_long, add_done}
use Rattle.theorems_session.specs.StepEnds.{CloseEnds, close_not_begun, close_no_record, close_done}
use Rattle.theorems_session.specs.StepEnds.{FinishEnds, finish_not_begun, finish_no_record, finish_too_long, finish_done}
use Rattle.theorems_session.proofs.LastLaws.{last_or_none}
use Rattle.theorems_session.proofs.StageCases.{afresh_not_begun, finished_not_begun, finished_not_afresh}

-- ---- a test and what it tests

-- b tells whether P holds
record Tells (b : Bool) (P : Type 0) : Type 0 where
  yes : b ≡ true → P
  sure : P → b ≡ true

-- P doesn't hold where the test fails, and the test fails where P doesn't hold
tells_no : {b : Bool} {P : Type 0} → Tells b P → b ≡ false → P → ⊥
tells_no t e p = false≢true (sym e ∙ t.sure p)

tells_fails : (b : Bool) {P : Type 0} → Tells b P → (P → ⊥) → b ≡ false
tells_fails true t f = absurd (f (t.yes refl))
tells_fails false t f = refl

-- a test holds or fails
by_test : {C : Type 0} (b : Bool) → (b ≡ true → C) → (b ≡ false → C) → C
by_test true f g = f refl
by_test false f g = g refl

-- ---- the tests of the steps

tells_counts : (b i : ℕ) → Tells (counts_fit b i) (CountsFit b i)
unfolding CountsFit
tells_counts b i =
    record {
      yes = λ e. let k = counts⁻¹ b i e in (k.0, k.2, k.1, leb-true i 65535 (counts_asked b i k.0 k.2 k.1 ∙ e));
      sure = λ c. sym (counts_asked b i c.0 c.1 c.2) ∙ le-leb i 65535 c.3;
    }

tells_metadata : (m : List ℕ) → Tells (is_metadata m) (Metadata m)
tells_metadata m = record { yes = is_metadata⇒Metadata m; sure = Metadata⇒is_metadata m }

tells_fits : (room long : ℕ) → Tells (file_fits room long) (FitsIn room long)
unfolding FitsIn
tells_fits room long =
    record {
      yes = λ e. let k = fits⁻¹ room long e in (omega (arith, k.0), omega (arith, k.1));
      sure = λ f. fits room long (omega (arith, f.0)) (omega (arith, f.1));
    }

exceeds_not : (room long : ℕ) → Exceeds room long → FitsIn room long → ⊥
unfolding Exceeds FitsIn
exceeds_not room long (inl more) f = omega (arith, f.0, more)
exceeds_not room long (inr more) f = omega (arith, f.1, more)

not_exceeds : (room long : ℕ) → (FitsIn room long → ⊥) → Exceeds room long
unfolding Exceeds FitsIn
not_exceeds room long f =
    by_test (ltb room long) (λ e. inl (omega (arith, ltb-true room long e)))
    (λ e. by_test (ltb (2 ^ 30) long) (λ g. inr (omega (arith, ltb-true (2 ^ 30) long g)))
    (λ g. absurd (f (omega (arith, ltb-false room long e), omega (arith, ltb-false (2 ^ 30) long g)))))

last_is : (rs earlier : List (List ℕ)) (last : List ℕ) → rs ≡ earlier ++ (last ∷ []) → last_or [] rs ≡ last
unfolding last_or
last_is rs earlier last e = ap (last_or []) e ∙ last_or_append [] earlier (last ∷ [])

tells_next : (d : Draft) (r : List ℕ) → Tells (is_next d r) (NotBefore d r)
unfolding is_next NotBefore last_or
tells_next d r =
    record {
      yes = λ e earlier last h. ap (λ (l : List ℕ). at_most l r) (sym (last_is (draft_records d) earlier last h)) ∙ e;
      sure = λ f. go f (last_or_none (draft_records d));
    }
  where
    go : ((earlier : List (List ℕ)) (last : List ℕ) → draft_records d ≡ earlier ++ (last ∷ []) → at_most last r ≡ true)
        → (draft_records d ≡ []) ⊎ ((earlier : List (List ℕ)) × ((last : List ℕ) × (draft_records d ≡ earlier ++ (last ∷ []))))
        → at_most (last_or [] (draft_records d)) r ≡ true
    go f (inl e) = ap (λ (rs : List (List ℕ)). at_most (last_or [] rs) r) e ∙ nil_at_most r
    go f (inr p) =
        ap (λ (l : List ℕ). at_most l r) (last_is (draft_records d) p.0 p.1.0 p.1.1) ∙ f p.0 p.1.0 p.1.1

tells_some : (rs : List (List ℕ)) → Tells (leb 1 (length rs)) (rs ≢ [])
tells_some [] = record { yes = λ e n. let h = leb-true 1 0 e in omega arith; sure = λ f. absurd (f refl) }
tells_some (r ∷ rs) = record { yes = λ e n. let h = ap length n in omega arith; sure = λ f. le-leb 1 (length (r ∷ rs)) (omega arith) }

none_of : (rs : List (List ℕ)) → leb 1 (length rs) ≡ false → rs ≡ []
none_of [] e = refl
none_of (r ∷ rs) e = absurd (false≢true (sym e ∙ le-leb 1 (length (r ∷ rs)) (omega arith)))

none_fails : (rs : List (List ℕ)) → rs ≡ [] → leb 1 (length rs) ≡ false
none_fails rs e = ap (λ (l : List (List ℕ)). leb 1 (length l)) e ∙ lt-leb 1 0 (omega arith)

-- ---- the stage

tells_afresh : (stage : Stage) → Tells (is_afresh stage) (stage ≡ afresh)
unfolding is_afresh
tells_afresh afresh = record { yes = λ e. refl; sure = λ e. refl }
tells_afresh (begun d) = record { yes = λ e. absurd (false≢true e); sure = λ e. absurd (afresh_not_begun d (sym e)) }
tells_afresh (finished d) = record { yes = λ e. absurd (false≢true e); sure = λ e. absurd (finished_not_afresh d e) }

begun_or_not : (stage : Stage) → ((d : Draft) × (stage ≡ begun d)) ⊎ NotBegun stage
unfolding NotBegun
begun_or_not afresh = inr afresh_not_begun
begun_or_not (begun d) = inl (d, refl)
begun_or_not (finished c) = inr (finished_not_begun c)

-- without a draft a step gives 28
not_begun_28 : {A : Type 0} (stage : Stage) (next : Draft → Outcome A) → NotBegun stage → number_of (draft_of stage >>= next) ≡ 28
unfolding number_of ◌>>=◌ draft_of NotBegun
not_begun_28 afresh next f = refl
not_begun_28 (begun d) next f = absurd (f d refl)
not_begun_28 (finished d) next f = refl

begun_goes : {A : Type 0} (stage : Stage) (next : Draft → Outcome A) (d : Draft) → stage ≡ begun d → (draft_of stage >>= next) ≡ next d
unfolding ◌>>=◌ draft_of
begun_goes stage next d e = ap (λ (s : Stage). draft_of s >>= next) e

-- ---- numbers

number_kept : {A : Type 0} (b : Bool) (n : ℕ) (o : Outcome A) → b ≡ true → number_of (must b n 0 >> o) ≡ number_of o
number_kept b n o e = ap number_of (kept b n 0 o e)

number_broken : {A : Type 0} (b : Bool) (n : ℕ) (o : Outcome A) → b ≡ false → number_of (must b n 0 >> o) ≡ n
unfolding number_of
number_broken b n o e = ap number_of (broken b n 0 o e)

-- ---- begin

module _ (stage : Stage) (metadata : List ℕ) (per_block per_index room : ℕ) where
  begin_number : (n : ℕ) → BeginEnds stage metadata per_block per_index room n → number_of (begin_of stage metadata per_block per_index room) ≡ n
  unfolding begin_of number_of
  begin_number n (begin_again f) = number_broken (is_afresh stage) 28 _ (tells_fails (is_afresh stage) (tells_afresh stage) f)
  begin_number n (begin_counts s f) =
      number_kept (is_afresh stage) 28 _ ((tells_afresh stage).sure s)
      ∙ number_broken (counts_fit per_block per_index) 30 _ (tells_fails _ (tells_counts per_block per_index) f)
  begin_number n (begin_no_metadata s c f) =
      number_kept (is_afresh stage) 28 _ ((tells_afresh stage).sure s)
      ∙ number_kept (counts_fit per_block per_index) 30 _ ((tells_counts per_block per_index).sure c)
      ∙ number_broken (is_metadata metadata) 9 _ (tells_fails _ (tells_metadata metadata) f)
  begin_number n (begin_too_long s c m f) =
      number_kept (is_afresh stage) 28 _ ((tells_afresh stage).sure s)
      ∙ number_kept (counts_fit per_block per_index) 30 _ ((tells_counts per_block per_index).sure c)
      ∙ number_kept (is_metadata metadata) 9 _ ((tells_metadata metadata).sure m)
      ∙ number_broken (file_fits room (blocks_start metadata)) 31 _
      (tells_fails _ (tells_fits room (blocks_start metadata)) (exceeds_not room (blocks_start metadata) f))
  begin_number n (begin_done s c m f) =
      number_kept (is_afresh stage) 28 _ ((tells_afresh stage).sure s)
      ∙ number_kept (counts_fit per_block per_index) 30 _ ((tells_counts per_block per_index).sure c)
      ∙ number_kept (is_metadata metadata) 9 _ ((tells_metadata metadata).sure m)
      ∙ number_kept (file_fits room (blocks_start metadata)) 31 _ ((tells_fits room (blocks_start metadata)).sure f)

  begin_some : (n : ℕ) × BeginEnds stage metadata per_block per_index room n
  begin_some =
      by_test (is_afresh stage)
      (λ s. by_test (counts_fit per_block per_index)
      (λ c. by_test (is_metadata metadata)
      (λ m. by_test (file_fits room (blocks_start metadata))
      (λ f. (0, begin_done (first s) (counts c) (rule m) (fit.yes f)))
      (λ f. (31, begin_too_long (first s) (counts c) (rule m) (not_exceeds room (blocks_start metadata) (tells_no fit f)))))
      (λ m. (9, begin_no_metadata (first s) (counts c) (tells_no (tells_metadata metadata) m))))
      (λ c. (30, begin_counts (first s) (tells_no (tells_counts per_block per_index) c))))
      (λ s. (28, begin_again (tells_no (tells_afresh stage) s)))
    where
      first : is_afresh stage ≡ true → stage ≡ afresh
      first = (tells_afresh stage).yes

      counts : counts_fit per_block per_index ≡ true → CountsFit per_block per_index
      counts = (tells_counts per_block per_index).yes

      rule : is_metadata metadata ≡ true → Metadata metadata
      rule = (tells_metadata metadata).yes

      fit : Tells (file_fits room (blocks_start metadata)) (FitsIn room (blocks_start metadata))
      fit = tells_fits room (blocks_start metadata)

  -- the number that begin gives has its reason
  pub begin_ends : BeginEnds stage metadata per_block per_index room (number_of (begin_of stage metadata per_block per_index room))
  begin_ends = subst (BeginEnds stage metadata per_block per_index room) (sym (begin_number begin_some.0 begin_some.1)) begin_some.1

  -- and the cases exclude each other
  pub begin_ends_one : (m n : ℕ) → BeginEnds stage metadata per_block per_index room m → BeginEnds stage metadata per_block per_index room n → m ≡ n
  begin_ends_one m n a b = sym (begin_number m a) ∙ begin_number n b

  -- so a number is given exactly if its reason holds
  pub begin_exactly : (n : ℕ) → (number_of (begin_of stage metadata per_block per_index room) ≡ n) ↔ BeginEnds stage metadata per_block per_index room n
  begin_exactly n = (λ e. subst (BeginEnds stage metadata per_block per_index room) e begin_ends, begin_number n)

-- ---- add

module _ (stage : Stage) (r : List ℕ) (room : ℕ) where
  add_number : (n : ℕ) → AddEnds stage r room n → number_of (add_of stage r room) ≡ n
  unfolding add_of number_of
  add_number n (add_not_begun f) = not_begun_28 stage _ f
  add_number n (add_falls d e f) =
      ap number_of (begun_goes stage _ d e) ∙ number_broken (is_next d r) 29 _ (tells_fails _ (tells_next d r) f)
  add_number n (add_too_long d e h f) =
      ap number_of (begun_goes stage _ d e) ∙ number_kept (is_next d r) 29 _ ((tells_next d r).sure h)
      ∙ number_broken (file_fits room (data_end (add_to d r))) 31 _
      (tells_fails _ (tells_fits room (data_end (add_to d r))) (exceeds_not room (data_end (add_to d r)) f))
  add_number n (add_done d e h f) =
      ap number_of (begun_goes stage _ d e) ∙ number_kept (is_next d r) 29 _ ((tells_next d r).sure h)
      ∙ number_kept (file_fits room (data_end (add_to d r))) 31 _ ((tells_fits room (data_end (add_to d r))).sure f)

  add_some : (n : ℕ) × AddEnds stage r room n
  add_some = go (begun_or_not stage)
    where
      go : ((d : Draft) × (stage ≡ begun d)) ⊎ NotBegun stage → (n : ℕ) × AddEnds stage r room n
      go (inl p) =
          let d = p.0 in
          let fit = tells_fits room (data_end (add_to d r)) in
          by_test (is_next d r)
          (λ h. by_test (file_fits room (data_end (add_to d r))) (λ f. (0, add_done d p.1 ((tells_next d r).yes h) (fit.yes f)))
          (λ f. (31, add_too_long d p.1 ((tells_next d r).yes h) (not_exceeds room (data_end (add_to d r)) (tells_no fit f)))))
          (λ h. (29, add_falls d p.1 (tells_no (tells_next d r) h)))
      go (inr f) = (28, add_not_begun f)

  pub add_ends : AddEnds stage r room (number_of (add_of stage r room))
  add_ends = subst (AddEnds stage r room) (sym (add_number add_some.0 add_some.1)) add_some.1

  pub add_ends_one : (m n : ℕ) → AddEnds stage r room m → AddEnds stage r room n → m ≡ n
  add_ends_one m n a b = sym (add_number m a) ∙ add_number n b

  pub add_exactly : (n : ℕ) → (number_of (add_of stage r room) ≡ n) ↔ AddEnds stage r room n
  add_exactly n = (λ e. subst (AddEnds stage r room) e add_ends, add_number n)

-- ---- close

module _ (stage : Stage) where
  close_number : (n : ℕ) → CloseEnds stage n → number_of (close_of stage) ≡ n
  unfolding close_of number_of
  close_number n (close_not_begun f) = not_begun_28 stage _ f
  close_number n (close_no_record d e none) =
      ap number_of (begun_goes stage _ d e) ∙ number_broken (leb 1 (length d.current)) 28 _ (none_fails d.current none)
  close_number n (close_done d e some) =
      ap number_of (begun_goes stage _ d e) ∙ number_kept (leb 1 (length d.current)) 28 _ ((tells_some d.current).sure some)

  close_some : (n : ℕ) × CloseEnds stage n
  close_some = go (begun_or_not stage)
    where
      go : ((d : Draft) × (stage ≡ begun d)) ⊎ NotBegun stage → (n : ℕ) × CloseEnds stage n
      go (inl p) =
          let rs = p.0.current in
          by_test (leb 1 (length rs)) (λ h. (0, close_done p.0 p.1 ((tells_some rs).yes h)))
          (λ h. (28, close_no_record p.0 p.1 (none_of rs h)))
      go (inr f) = (28, close_not_begun f)

  pub close_ends : CloseEnds stage (number_of (close_of stage))
  close_ends = subst (CloseEnds stage) (sym (close_number close_some.0 close_some.1)) close_some.1

  pub close_ends_one : (m n : ℕ) → CloseEnds stage m → CloseEnds stage n → m ≡ n
  close_ends_one m n a b = sym (close_number m a) ∙ close_number n b

  pub close_exactly : (n : ℕ) → (number_of (close_of stage) ≡ n) ↔ CloseEnds stage n
  close_exactly n = (λ e. subst (CloseEnds stage) e close_ends, close_number n)

-- ---- finish

module _ (stage : Stage) (room : ℕ) where
  finish_number : (n : ℕ) → FinishEnds stage room n → number_of (finish_of stage room) ≡ n
  unfolding finish_of number_of
  finish_number n (finish_not_begun f) = not_begun_28 stage _ f
  finish_number n (finish_no_record d e none) =
      ap number_of (begun_goes stage _ d e) ∙ number_broken (leb 1 (length (draft_records d))) 28 _ (none_fails (draft_records d) none)
  finish_number n (finish_too_long d e some f) =
      ap number_of (begun_goes stage _ d e) ∙ number_kept (leb 1 (length (draft_records d))) 28 _ ((tells_some (draft_records d)).sure some)
      ∙ number_broken (file_fits room (length (draft_file d))) 31 _
      (tells_fails _ (tells_fits room (length (draft_file d))) (exceeds_not room (length (draft_file d)) f))
  finish_number n (finish_done d e some f) =
      ap number_of (begun_goes stage _ d e) ∙ number_kept (leb 1 (length (draft_records d))) 28 _ ((tells_some (draft_records d)).sure some)
      ∙ number_kept (file_fits room (length (draft_file d))) 31 _ ((tells_fits room (length (draft_file d))).sure f)

  finish_some : (n : ℕ) × FinishEnds stage room n
  finish_some = go (begun_or_not stage)
    where
      go : ((d : Draft) × (stage ≡ begun d)) ⊎ NotBegun stage → (n : ℕ) × FinishEnds stage room n
      go (inl p) =
          let d = p.0 in
          let fit = tells_fits room (length (draft_file d)) in
          by_test (leb 1 (length (draft_records d)))
          (λ h. by_test (file_fits room (length (draft_file d))) (λ f. (0, finish_done d p.1 ((tells_some (draft_records d)).yes h) (fit.yes f)))
          (λ f. (31, finish_too_long d p.1 ((tells_some (draft_records d)).yes h) (not_exceeds room (length (draft_file d)) (tells_no fit f)))))
          (λ h. (28, finish_no_record d p.1 (none_of (draft_records d) h)))
      go (inr f) = (28, finish_not_begun f)

  pub finish_ends : FinishEnds stage room (number_of (finish_of stage room))
  finish_ends = subst (FinishEnds stage room) (sym (finish_number finish_some.0 finish_some.1)) finish_some.1

  pub finish_ends_one : (m n : ℕ) → FinishEnds stage room m → FinishEnds stage room n → m ≡ n
  finish_ends_one m n a b = sym (finish_number m a) ∙ finish_number n b

  pub finish_exactly : (n : ℕ) → (number_of (finish_of stage room) ≡ n) ↔ FinishEnds stage room n
  finish_exactly n = (λ e. subst (FinishEnds stage room) e finish_ends, finish_number n)
