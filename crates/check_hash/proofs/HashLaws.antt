-- Laws of the hash over the payloads of the data blocks.
-- Assumes nothing.
use mathlib.Core.Path.{◌≡◌, refl, sym, ap, ap₂, ◌∙◌, subst}
use mathlib.Core.Bool.{Bool, true, false, cond}
use mathlib.Core.List.{List, [], ◌∷◌, ◌++◌, flat_map, append-nil}
use Prim.Native.Nat.{ℕ, zero, suc, ◌+◌, ◌-◌, ◌^◌, ◌≤◌, ◌<◌}
use native.Mathlib.Omega.{arith}
use lib.Dec.{leb}
use lib.ListN.{length, take, drop, length-append, length-drop}
use borrow.Author.Tests.{le-leb, lt-leb, leb-true, leb-false}
use Rattle.byte_string.specs.declared.Comparison.{Comparison}
use Rattle.byte_string.specs.Order.{begins, comparison, says_begins}
use Rattle.byte_string.proofs.ComparisonLaws.{compared_begins}
use Rattle.byte_string.proofs.PrefixLaws.{length-begins}
use Rattle.sha256.specs.declared.State.{State}
use Rattle.sha256.specs.Sha256.{sha256}
use Rattle.sha256.specs.State.{begun, absorbed, finished, Holds, none, more}
use Rattle.sha256.proofs.StateLaws.{Holds⇒sha256, sha256-length}
use Rattle.outcome.specs.Outcome.{Outcome, answer, refused, must}
use Rattle.outcome.proofs.OutcomeLaws.{kept, broken}
use Rattle.part.specs.Part.{part}
use Rattle.part.proofs.PartLaws.{length_part, lent_drop}
use Rattle.items.specs.Items.{sound_from}
use Rattle.items.proofs.ItemsLaws.{sound_end, sound_step, sound_refused}
use Rattle.items.proofs.GoingLaws.{SoundProgress, sound_progress_start, sound_progress_end, sound_progress_refused, sound_progress_more}
use Rattle.lists.proofs.ListsLaws.{flat_map_append}
use Rattle.framing.specs.declared.Frame.{Frame}
use Rattle.framing.specs.Frame.{frame_at}
use Rattle.framing.proofs.FrameLaws.{Framed, frame⇒Framed}
use Rattle.block.specs.Block.{Block, is_data, blocks_at}
use Rattle.block.specs.Laid.{laid_in, laid_at, laid_from}
use Rattle.block.proofs.LaidLaws.{laid_found, laid_refused, blocks⇒laid}
use Rattle.tree.specs.Stages.{payloads, hash_rule_of}
use Rattle.check_hash.specs.Hash.{hash_of}

-- ---- payloads

-- what a block adds
abbrev pub payload_of : List ℕ → Frame → List ℕ
payload_of file f = cond (is_data f.level) (part file (f.body + 1) (f.end - (f.body + 1))) []

-- the state after a block
abbrev pub state_after : List ℕ → State → Frame → State
state_after file s f = cond (is_data f.level) (absorbed s (part file (f.body + 1) (f.end - (f.body + 1)))) s

payloads_snoc : (file : List ℕ) (bs : List Block) (b : Block) → payloads file (bs ++ (b ∷ [])) ≡ payloads file bs ++ payload_of file b.frame
unfolding payloads flat_map
payloads_snoc file bs b = flat_map_append _ bs (b ∷ []) ∙ ap (λ (l : List ℕ). payloads file bs ++ l) (append-nil (payload_of file b.frame))

holds_after : (file : List ℕ) (m : List ℕ) (s : State) (f : Frame) → Holds m s → Holds (m ++ payload_of file f) (state_after file s f)
holds_after file m s f h = go (is_data f.level)
  where
    go : (b : Bool)
        → Holds (m ++ cond b (part file (f.body + 1) (f.end - (f.body + 1))) []) (cond b (absorbed s (part file (f.body + 1) (f.end - (f.body + 1)))) s)
    go true = more h (part file (f.body + 1) (f.end - (f.body + 1)))
    go false = subst (λ (l : List ℕ). Holds l s) (sym (append-nil m)) h

-- ---- the pass

-- the blocks seen, which the state holds, and those to come
pub record Passed (file : List ℕ) (from at : ℕ) (s : State) : Type 0 where
  pub seen : List Block
  pub going : SoundProgress (laid_at file) (length file) from at seen
  pub holds : Holds (payloads file seen) s

pub passed_start : (file : List ℕ) (from : ℕ) → Passed file from from begun
unfolding payloads flat_map
passed_start file from = record { seen = []; going = sound_progress_start (laid_at file) (length file) from; holds = none }

module _ (file : List ℕ) (from at : ℕ) (s : State) (p : Passed file from at s) where
  all_seen : laid_from file from ≡ p.seen → Holds (payloads file (laid_from file from)) s
  all_seen e = subst (λ (l : List Block). Holds (payloads file l) s) (sym e) p.holds

  pub passed_end : length file ≤ at → Holds (payloads file (laid_from file from)) s
  unfolding laid_from
  passed_end h = all_seen (sound_progress_end (laid_at file) (length file) from at p.seen p.going h)

  pub passed_refused : at < length file → (number place : ℕ) → frame_at file at ≡ refused number place → Holds (payloads file (laid_from file from)) s
  unfolding laid_from
  passed_refused h number place e =
      all_seen (sound_progress_refused (laid_at file) (length file) from at p.seen p.going h number place (laid_refused file at number place e))

  -- where no frame can be read, all blocks are seen
  pub passed_over : (number place : ℕ) → frame_at file at ≡ refused number place → Holds (payloads file (laid_from file from)) s
  passed_over number place e = go (leb (length file) at) refl
    where
      go : (b : Bool) → leb (length file) at ≡ b → Holds (payloads file (laid_from file from)) s
      go true p = passed_end (leb-true _ _ p)
      go false p = passed_refused (leb-false _ _ p) number place e

  -- a block more
  pub passed_more : (f : Frame) → frame_at file at ≡ answer f → (next : State) → next ≡ state_after file s f → Passed file from (at + f.size) next
  unfolding laid_in
  passed_more f e next same =
      let l = frame⇒Framed file at f e in
      let number = l.number in
      let some = l.some in
      let sized = l.sized in
      let within = l.within in
      let b = laid_in file f in
      record {
        seen = p.seen ++ (b ∷ []);
        going =
            sound_progress_more (laid_at file) (length file) from at p.seen p.going (record { item = b; next = at + f.size }) (omega arith) (laid_found file at f e)
            (omega arith);
        holds =
            subst (Holds (payloads file (p.seen ++ (b ∷ [])))) (sym same)
            (subst (λ (m : List ℕ). Holds m (state_after file s f)) (sym (payloads_snoc file p.seen b))
            (holds_after file (payloads file p.seen) s f p.holds));
      }

-- ---- the payloads are no longer than the file

payload_short : (file : List ℕ) (at : ℕ) (f : Frame) → Framed file at f → length (payload_of file f) ≤ f.size
payload_short file at f l = go (is_data f.level)
  where
    go : (b : Bool) → length (cond b (part file (f.body + 1) (f.end - (f.body + 1))) []) ≤ f.size
    go true =
        let number = l.number in
        let some = l.some in
        let sized = l.sized in
        let within = l.within in
        let long = length_part file (f.body + 1) (f.end - (f.body + 1)) (omega arith) in
        omega arith
    go false = omega arith

laid_short : (file : List ℕ) (fuel at : ℕ) → length (payloads file (sound_from (laid_at file) (length file) fuel at)) ≤ length file - at
unfolding payloads flat_map sound_from laid_in
laid_short file zero at = omega arith
laid_short file (suc fuel) at = by_end (leb (length file) at) refl (laid_short file fuel)
  where
    Short : List Block → Type 0
    Short bs = length (payloads file bs) ≤ length file - at

    by_frame : at < length file → (o : Outcome Frame) → frame_at file at ≡ o
        → ((next : ℕ) → length (payloads file (sound_from (laid_at file) (length file) fuel next)) ≤ length file - next)
        → Short (sound_from (laid_at file) (length file) (suc fuel) at)
    by_frame h (refused number place) e ih =
        subst Short (sym (sound_refused (laid_at file) (length file) fuel at number place h (laid_refused file at number place e))) (omega arith)
    by_frame h (answer f) e ih =
        subst Short (sym (sound_step (laid_at file) (length file) fuel at (record { item = laid_in file f; next = at + f.size }) h (laid_found file at f e)))
        (both f (frame⇒Framed file at f e) (ih (at + f.size)))
      where
        both : (f : Frame) → Framed file at f
            → length (payloads file (sound_from (laid_at file) (length file) fuel (at + f.size))) ≤ length file - (at + f.size)
            → Short (laid_in file f ∷ sound_from (laid_at file) (length file) fuel (at + f.size))
        both f l rest =
            let own = payload_short file at f l in
            let within = l.within in
            let tail : List Block = sound_from (laid_at file) (length file) fuel (at + f.size) in
            let sum : length (payloads file (laid_in file f ∷ tail)) ≡ length (payload_of file f) + length (payloads file tail)
            = length-append (payload_of file f) (payloads file tail) in
            omega arith

    by_end : (b : Bool) → leb (length file) at ≡ b
        → ((next : ℕ) → length (payloads file (sound_from (laid_at file) (length file) fuel next)) ≤ length file - next)
        → Short (sound_from (laid_at file) (length file) (suc fuel) at)
    by_end true p ih = subst Short (sym (sound_end (laid_at file) (length file) (suc fuel) at (leb-true _ _ p))) (omega arith)
    by_end false p ih = by_frame (leb-false _ _ p) (frame_at file at) refl ih

-- so the state gives their hash
pub holds_hash : (file : List ℕ) (from : ℕ) → length file ≤ 2 ^ 30 → (s : State) → Holds (payloads file (laid_from file from)) s
    → finished s ≡ sha256 (payloads file (laid_from file from))
unfolding laid_from
holds_hash file from short s h =
    let few = laid_short file (length file - from) from in
    Holds⇒sha256 (payloads file (laid_from file from)) s h (omega arith)

-- ---- the rule

-- a file that ends before the hash has no right one
pub hash_missing : (file m : List ℕ) → length file < 40 → false ≡ begins (sha256 m) (drop 40 file)
hash_missing file m h = go (begins (sha256 m) (drop 40 file)) refl
  where
    go : (b : Bool) → begins (sha256 m) (drop 40 file) ≡ b → false ≡ b
    go false e = refl
    go true e =
        let long = length-begins (sha256 m) (drop 40 file) e in
        let digest = sha256-length m in
        let left = length-drop 40 file in
        absurd (omega arith)

-- else the digest is compared with what stands there
pub hash_compared : (file m digest : List ℕ) (c : Comparison) → digest ≡ sha256 m → c ≡ comparison digest (take (length file - 40) (drop 40 file))
    → says_begins 32 c ≡ begins (sha256 m) (drop 40 file)
hash_compared file m digest c e k =
    ap (λ (n : ℕ). says_begins n c) (sym (sha256-length m))
    ∙ compared_begins (sha256 m) (drop 40 file) c (k ∙ ap₂ comparison e (lent_drop file 40))

module _ (file : List ℕ) (from : ℕ) where
  pub hash_long : 2 ^ 30 < length file → hash_of file from ≡ refused 1 0
  unfolding hash_of
  hash_long h = broken (leb (length file) (2 ^ 30)) 1 0 (hash_rule_of file (laid_from file from)) (lt-leb _ _ h)

  -- the test decides
  pub hash_tested : length file ≤ 2 ^ 30 → (right : Bool) → right ≡ begins (sha256 (payloads file (laid_from file from))) (drop 40 file)
      → hash_of file from ≡ must right 25 0
  unfolding hash_of hash_rule_of
  hash_tested short right e = kept (leb (length file) (2 ^ 30)) 1 0 _ (le-leb _ _ short) ∙ ap (λ (b : Bool). must b 25 0) (sym e)

  -- of a file whose blocks are accepted the rule is judged
  pub hash_accepted : length file ≤ 2 ^ 30 → (bs : List Block) → blocks_at file from ≡ answer bs → hash_of file from ≡ hash_rule_of file bs
  unfolding hash_of
  hash_accepted short bs e = kept (leb (length file) (2 ^ 30)) 1 0 _ (le-leb _ _ short) ∙ ap (hash_rule_of file) (blocks⇒laid file from bs e)
