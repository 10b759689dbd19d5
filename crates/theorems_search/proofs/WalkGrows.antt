-- The lists of the walk only grow: what it has opened and found it keeps, and puts more after it.
-- Assumes nothing.
use mathlib.Core.Path.{◌≡◌, refl, sym, ap, ◌∙◌, subst}
use mathlib.Core.Bool.{Bool, true, false, cond}
use mathlib.Core.List.Memᴰ
use mathlib.Core.List.{List, [], ◌∷◌, ◌++◌, append-nil, append_assoc, Memᴰ}
use mathlib.Core.Option.{Option}
use Prim.Native.Nat.{ℕ}
use Rattle.outcome.specs.Outcome.{Outcome, answer, ◌>>=◌}
use Rattle.outcome.proofs.OutcomeLaws.{bind_answer, bind⁻¹}
use Rattle.payload.specs.Payload.{Text, Entry}
use Rattle.block.specs.Block.{Block}
use Rattle.query.specs.Query.{Query}
use Rattle.query.specs.Opening.{may_match}
use Rattle.search.specs.declared.opening.Named.{Named}
use Rattle.search.specs.Search.{Walked, with_opened, with_match, next_key, open_block, add_matches, walk_over, walk_of}
use Rattle.theorems_search.proofs.WalkSteps.{over_keeps, matches_keep, opens_keep, walk_keeps}

-- t has all that s has, in its order, and more after it
pub record Grown (s t : Walked) : Type 0 where
  pub more_opened : List ℕ
  pub opened_are : t.opened ≡ s.opened ++ more_opened
  pub more_matches : List Text
  pub matches_are : t.matches ≡ s.matches ++ more_matches

pub grown_none : (s : Walked) → Grown s s
grown_none s = record { more_opened = []; opened_are = sym (append-nil s.opened); more_matches = []; matches_are = sym (append-nil s.matches) }

pub grown_further : (s t u : Walked) → Grown s t → Grown t u → Grown s u
grown_further s t u g h =
    record {
      more_opened = g.more_opened ++ h.more_opened;
      opened_are = h.opened_are ∙ ap (λ (l : List ℕ). l ++ h.more_opened) g.opened_are ∙ append_assoc s.opened g.more_opened h.more_opened;
      more_matches = g.more_matches ++ h.more_matches;
      matches_are = h.matches_are ∙ ap (λ (l : List Text). l ++ h.more_matches) g.matches_are ∙ append_assoc s.matches g.more_matches h.more_matches;
    }

pub grown_opened : (offset : ℕ) (s : Walked) → Grown s (with_opened offset s)
unfolding with_opened
grown_opened offset s = record { more_opened = offset ∷ []; opened_are = refl; more_matches = []; matches_are = sym (append-nil s.matches) }

pub grown_match : (r : Text) (s : Walked) → Grown s (with_match r s)
unfolding with_match
grown_match r s = record { more_opened = []; opened_are = sym (append-nil s.opened); more_matches = r ∷ []; matches_are = refl }

-- what was opened stays opened
pub grown_member : (s t : Walked) → Grown s t → (offset : ℕ) → Memᴰ offset s.opened → Memᴰ offset t.opened
grown_member s t g offset m = subst (Memᴰ offset) (sym g.opened_are) (Memᴰ.append_left g.more_opened m)

-- ---- the walk

pub matches_grow : (room : ℕ) (rs : List Text) (s t : Walked) → add_matches room rs s ≡ answer t → Grown s t
matches_grow room = matches_keep Grown grown_none grown_further room (λ r s free. grown_match r s)

pub over_grows : (q : Query) (visit : Entry → Option (List ℕ) → Walked → Outcome Walked) (above : Option (List ℕ))
    → ((e : Entry) (bound : Option (List ℕ)) (s t : Walked) → visit e bound s ≡ answer t → Grown s t)
    → (es : List Entry) (s t : Walked) → walk_over q visit above es s ≡ answer t → Grown s t
over_grows = over_keeps Grown grown_none grown_further

pub opens_grow : (file : List ℕ) (places from : ℕ) (n : Named) (next : Block → Walked → Outcome Walked)
    → ((c : Block) (s t : Walked) → next c s ≡ answer t → Grown s t)
    → (s t : Walked) → (open_block file places from n s >>= λ c. next c (with_opened n.offset s)) ≡ answer t → Grown s t
opens_grow file places = opens_keep Grown grown_none grown_further file places (λ offset c s free read. grown_opened offset s)

pub walk_grows : (file : List ℕ) (q : Query) (places room from level : ℕ) (b : Block) (upper : Option (List ℕ)) (s t : Walked)
    → walk_of file q places room from level b upper s ≡ answer t → Grown s t
walk_grows file q places room from =
    walk_keeps Grown grown_none grown_further file places (λ offset c s free read. grown_opened offset s) room (λ r s free. grown_match r s) q from

-- ---- two walks

-- Two ways to visit entries: what the first makes of an entry the second makes too, where P holds of what is walked then. P holds before if it holds
-- later.
pub over-same : (P : Walked → Type 0) → ((s t : Walked) → Grown s t → P t → P s)
    → (q : Query) (here there : Entry → Option (List ℕ) → Walked → Outcome Walked) (above : Option (List ℕ))
    → ((e : Entry) (bound : Option (List ℕ)) (s t : Walked) → here e bound s ≡ answer t → Grown s t)
    → ((e : Entry) (bound : Option (List ℕ)) (s t : Walked) → here e bound s ≡ answer t → P t → there e bound s ≡ answer t)
    → (es : List Entry) (s t : Walked) → walk_over q here above es s ≡ answer t → P t → walk_over q there above es s ≡ answer t
unfolding walk_over
over-same P earlier q here there above grows same [] s t a holds = a
over-same P earlier q here there above grows same (e ∷ es) s t a holds =
    let bound = next_key es above in
    let first = bind⁻¹ (cond (may_match e.key.bytes bound q) (here e bound s) (answer s)) (walk_over q here above es) t a in
    let before = earlier first.0 t (over_grows q here above grows es first.0 t first.2) holds in
    bind_answer (cond (may_match e.key.bytes bound q) (there e bound s) (answer s)) (walk_over q there above es) first.0
    (one (may_match e.key.bytes bound q) first.0 first.1 before)
    ∙ over-same P earlier q here there above grows same es first.0 t first.2 holds
  where
    one : (b : Bool) (u : Walked) → cond b (here e (next_key es above) s) (answer s) ≡ answer u → P u
        → cond b (there e (next_key es above) s) (answer s) ≡ answer u
    one true u p before = same e (next_key es above) s u p before
    one false u p before = p
