-- What packing keeps of a search: its results, unpacked, are those of a list with two places for each match. On any bytes.
-- Assumes nothing.
use mathlib.Core.Path.{◌≡◌, refl, sym, ap, ap₂, ◌∙◌}
use mathlib.Core.Bool.{Bool, cond}
use mathlib.Core.List.{List, [], ◌∷◌}
use mathlib.Core.Option.{Option, none}
use Prim.Native.Nat.{ℕ, zero, suc, ◌+◌, ◌*◌, ◌/◌}
use lib.ListN.{length}
use Rattle.outcome.specs.Outcome.{Outcome, answer, ◌>>◌, must}
use Rattle.outcome.proofs.OutcomeLaws.{bind_right, bind_same}
use Rattle.header.specs.Header.{header_of, blocks_from}
use Rattle.payload.specs.Payload.{Text, Entry}
use Rattle.block.specs.Block.{Block}
use Rattle.query.specs.Query.{Query}
use Rattle.query.specs.Opening.{may_match}
use Rattle.matching.specs.Matching.{matching}
use Rattle.search.specs.declared.Found.{Found}
use Rattle.search.specs.Search.{Walked, nothing, with_opened, with_match, next_key, root_named, child_named, open_block, add_matches}
use Rattle.search.specs.Search.{walk_over, walk_of, walk_from, search_of, search_answer, opened_list, result_list}
use Rattle.theorems_read.proofs.PairLaws.{pairs_room, half_twice, packing_keeps}
use Rattle.theorems_search.specs.SearchPairs.{add_pairs, walk_in_pairs, search_in_pairs, search_pairs, SearchUnpacks}
use Rattle.theorems_search.proofs.SearchTheorems.{walk_fits, search_answer_lem}
use Rattle.theorems_search.proofs.SearchNumbers.{number_0⇒answered}
use Rattle.theorems_search.proofs.FoundPlaces.{search_placed}
use Rattle.theorems_search.proofs.OtherRoom.{search_other_room}

-- ---- the old form has room for half as many matches as places

pairs_half : (places : ℕ) (rs : List Text) (s : Walked) → add_pairs places rs s ≡ add_matches (places / 2) rs s
unfolding add_pairs add_matches
pairs_half places [] s = refl
pairs_half places (r ∷ rs) s =
    ap₂ (λ (b : Bool) (o : Outcome Walked). must b 27 0 >> o) (pairs_room (length s.matches + 1) places) (pairs_half places rs (with_match r s))

-- the same visits make the same walk
over_alike : (q : Query) (visit other : Entry → Option (List ℕ) → Walked → Outcome Walked) (above : Option (List ℕ))
    → ((e : Entry) (bound : Option (List ℕ)) (s : Walked) → visit e bound s ≡ other e bound s)
    → (es : List Entry) (s : Walked) → walk_over q visit above es s ≡ walk_over q other above es s
unfolding walk_over
over_alike q visit other above same [] s = refl
over_alike q visit other above same (e ∷ es) s =
    bind_same (cond (may_match e.key.bytes (next_key es above) q) (visit e (next_key es above) s) (answer s))
    (cond (may_match e.key.bytes (next_key es above) q) (other e (next_key es above) s) (answer s))
    (walk_over q visit above es) (walk_over q other above es)
    (ap (λ (o : Outcome Walked). cond (may_match e.key.bytes (next_key es above) q) o (answer s)) (same e (next_key es above) s))
    (λ t reached. over_alike q visit other above same es t)

walk_half : (file : List ℕ) (q : Query) (opens places from level : ℕ) (b : Block) (upper : Option (List ℕ)) (s : Walked)
    → walk_in_pairs file q opens places from level b upper s ≡ walk_of file q opens (places / 2) from level b upper s
unfolding walk_in_pairs walk_of
walk_half file q opens places from zero b upper s = pairs_half places (matching q b.records) s
walk_half file q opens places from (suc level) b upper s =
    over_alike q _ _ upper
    (λ e bound t. bind_right (open_block file opens from (child_named b.frame.start level e.offset e.size) t) _ _
    (λ c. walk_half file q opens places from level c bound (with_opened e.offset t)))
    b.entries s

pub search_halves : (file : List ℕ) (q : Query) (opens places : ℕ) → search_in_pairs file q opens places ≡ search_of file q opens (places / 2)
unfolding search_in_pairs search_of walk_from
search_halves file q opens places =
    bind_right (header_of file) _ _ (λ h. bind_right (open_block file opens (blocks_from h) (root_named h.root h.rootsize) nothing) _ _
    (λ b. walk_half file q opens places (blocks_from h) b.frame.level b none (with_opened h.root nothing)))

-- ---- what is kept

-- of an answer and lists that are the search's
module _ (file : List ℕ) (q : Query) (opens room : ℕ) (r : Found) (list results : List ℕ) where
  pub search_unpacks : r ≡ search_answer (search_of file q opens room) → list ≡ opened_list opens (search_of file q opens room)
      → results ≡ result_list room (search_of file q opens room) → SearchUnpacks file q opens room r list results
  unfolding SearchUnpacks search_pairs result_list
  search_unpacks told opened-list held = (
    packing_keeps (λ (s : Walked). s.matches) search_answer (λ a. a.number) (λ a. a.matches) (search_of file q opens) (search_in_pairs file q opens)
        (search_halves file q opens) room (λ s e. (walk_fits file q opens room s e).matches_fit) (search_placed file q opens room)
        (λ s e other. search_other_room room other file q opens s e) (number_0⇒answered file q opens room) counted r results told held,
    ap (opened_list opens) again ∙ sym opened-list,
  )
    where
      counted : (s : Walked) → search_of file q opens room ≡ answer s → (search_answer (search_of file q opens room)).matches ≡ length s.matches
      counted s e = ap (λ (a : Found). a.matches) (search_answer_lem file q opens room s e).0

      again : search_in_pairs file q opens (2 * room) ≡ search_of file q opens room
      again = search_halves file q opens (2 * room) ∙ ap (search_of file q opens) (half_twice room)
