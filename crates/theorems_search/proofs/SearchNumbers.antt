-- The numbers that a search is refused with: 1 to 17, 19, 21, 26 and 27. So 0 says that it is answered.
-- Assumes nothing.
use mathlib.Core.Path.{◌≡◌, refl, sym, ap, ◌∙◌, subst}
use mathlib.Core.Logic.{◌⊎◌, inl, inr}
use mathlib.Core.Bool.{Bool, true, false, cond}
use mathlib.Core.List.{List, [], ◌∷◌}
use mathlib.Core.Option.{Option, none}
use Prim.Native.Nat.{ℕ, zero, suc, ◌≤◌}
use native.Mathlib.Omega.{arith}
use Rattle.outcome.specs.Outcome.{Outcome, answer, refused}
use Rattle.outcome.proofs.RefusalLaws.{Refuses, refuses_answer, refuses_bind, refuses_rule, refuses_more}
use Rattle.header.specs.Header.{header_of, blocks_from}
use Rattle.header.proofs.HeaderLaws.{header_refused}
use Rattle.framing.specs.Frame.{sound_frame_at}
use Rattle.payload.specs.Payload.{Text, Entry}
use Rattle.block.specs.Block.{Block}
use Rattle.query.specs.Query.{Query}
use Rattle.query.specs.Opening.{may_match}
use Rattle.matching.specs.Matching.{matching}
use Rattle.search.specs.declared.Found.{Found}
use Rattle.search.specs.declared.opening.Named.{Named}
use Rattle.search.specs.Search.{Walked, nothing, with_match, with_opened, next_key, root_named, child_named, fitting_block, named_block, open_block, add_matches, walk_over, walk_of, walk_from, search_of, search_answer}
use Rattle.outcome.specs.Fault.{number}
use Rattle.theorems_check.proofs.BlockNumbers.{BlockNumber, frame_numbers, inside_numbers}
use Rattle.theorems_search.proofs.SearchTheorems.{search_refusal}

module _ (Kind : ℕ → Type 0) (low : (n : ℕ) → 1 ≤ n → n ≤ 17 → Kind n) (k19 : Kind 19) (k21 : Kind 21) (k26 : Kind 26) (k27 : Kind 27) where
  by_block : (n : ℕ) → BlockNumber n → Kind n
  by_block n (inl between) = low n (omega arith) (omega arith)
  by_block n (inr same) = subst Kind (sym same) k21

  -- ---- one block

  open_refuses : (file : List ℕ) (places from : ℕ) (n : Named) (s : Walked) → Kind (number n.refusal.fault) → Refuses Kind (open_block file places from n s)
  unfolding open_block named_block fitting_block
  open_refuses file places from n s k =
      refuses_rule Kind _ 26 0 _ k26
      (refuses_rule Kind _ (number n.refusal.fault) n.refusal.place _ k
      (refuses_bind Kind (sound_frame_at file n.offset) _ (refuses_more BlockNumber Kind _ by_block (frame_numbers file n.offset))
      (λ f. refuses_rule Kind _ (number n.refusal.fault) n.refusal.place _ k (refuses_more BlockNumber Kind _ by_block (inside_numbers file f)))))

  add_refuses : (room : ℕ) (rs : List Text) (s : Walked) → Refuses Kind (add_matches room rs s)
  unfolding add_matches
  add_refuses room [] s = refuses_answer Kind s
  add_refuses room (r ∷ rs) s = refuses_rule Kind _ 27 0 _ k27 (add_refuses room rs (with_match r s))

  -- ---- the walk

  over_refuses : (q : Query) (visit : Entry → Option (List ℕ) → Walked → Outcome Walked) (above : Option (List ℕ))
      → ((e : Entry) (bound : Option (List ℕ)) (s : Walked) → Refuses Kind (visit e bound s)) → (es : List Entry) (s : Walked) → Refuses Kind (walk_over q visit above es s)
  unfolding walk_over
  over_refuses q visit above h [] s = refuses_answer Kind s
  over_refuses q visit above h (e ∷ es) s =
      refuses_bind Kind (cond (may_match e.key.bytes (next_key es above) q) (visit e (next_key es above) s) (answer s)) _
      (one (may_match e.key.bytes (next_key es above) q)) (over_refuses q visit above h es)
    where
      one : (b : Bool) → Refuses Kind (cond b (visit e (next_key es above) s) (answer s))
      one true = h e (next_key es above) s
      one false = refuses_answer Kind s

  module _ (file : List ℕ) (q : Query) (places room : ℕ) where
    walk_refuses : (from level : ℕ) (b : Block) (upper : Option (List ℕ)) (s : Walked) → Refuses Kind (walk_of file q places room from level b upper s)
    unfolding walk_of child_named number
    walk_refuses from zero b upper s = add_refuses room (matching q b.records) s
    walk_refuses from (suc level) b upper s =
        over_refuses q _ upper
        (λ e bound t. refuses_bind Kind (open_block file places from (child_named b.frame.start level e.offset e.size) t) _
        (open_refuses file places from (child_named b.frame.start level e.offset e.size) t k19)
        (λ c. walk_refuses from level c bound (with_opened e.offset t)))
        b.entries s

    pub search_refuses : Refuses Kind (search_of file q places room)
    unfolding search_of walk_from root_named number
    search_refuses =
        refuses_bind Kind (header_of file) _
        (record { among = λ n p e. let numbers = header_refused file n p e in low n numbers.1 (omega arith) })
        (λ h. refuses_bind Kind (open_block file places (blocks_from h) (root_named h.root h.rootsize) nothing) _
        (open_refuses file places (blocks_from h) (root_named h.root h.rootsize) nothing (low 17 (omega arith) (omega arith)))
        (λ b. walk_refuses (blocks_from h) b.frame.level b none (with_opened h.root nothing)))

module _ (file : List ℕ) (q : Query) (places room : ℕ) where
  -- 18, 20 and 22 to 25 are never given
  pub search_numbers : (number place : ℕ) → search_of file q places room ≡ refused number place
      → ((1 ≤ number) × (number ≤ 17)) ⊎ ((number ≡ 19) ⊎ ((number ≡ 21) ⊎ ((number ≡ 26) ⊎ (number ≡ 27))))
  search_numbers =
      (search_refuses (λ n. ((1 ≤ n) × (n ≤ 17)) ⊎ ((n ≡ 19) ⊎ ((n ≡ 21) ⊎ ((n ≡ 26) ⊎ (n ≡ 27)))))
      (λ n some few. inl (some, few)) (inr (inl refl)) (inr (inr (inl refl))) (inr (inr (inr (inl refl)))) (inr (inr (inr (inr refl))))
      file q places room).among

  -- the number 0 says that there is no refusal
  pub number_0⇒answered : (search_answer (search_of file q places room)).number ≡ 0 → (s : Walked) × (search_of file q places room ≡ answer s)
  number_0⇒answered z = go (search_of file q places room) refl
    where
      some : (n p : ℕ) → search_of file q places room ≡ refused n p → n ≡ 0 → ⊥
      some n p e =
          (search_refuses (λ k. k ≡ 0 → ⊥) (λ k one few same. omega arith) (λ same. omega arith) (λ same. omega arith) (λ same. omega arith) (λ same. omega arith)
          file q places room).among n p e

      go : (o : Outcome Walked) → search_of file q places room ≡ o → (s : Walked) × (search_of file q places room ≡ answer s)
      go (answer s) e = (s, e)
      go (refused n p) e = absurd (some n p e (sym (ap (λ (r : Found). r.number) (search_refusal file q places room n p e).0) ∙ z))
