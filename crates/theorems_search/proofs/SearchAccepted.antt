-- The search of an accepted file (demand 3, whole): answered as reading front to back is, and the blocks opened are those of the rule.
-- Assumes nothing.
use mathlib.Core.Path.{◌≡◌, sym, ap, ◌∙◌, subst}
use mathlib.Core.Logic.{◌↔◌}
use mathlib.Core.List.Memᴰ
use mathlib.Core.List.{List, map, Memᴰ}
use Prim.Native.Nat.{ℕ, ◌≤◌, ◌<◌}
use native.Mathlib.Omega.{arith}
use lib.ListN.{length, take, length-map}
use Rattle.byte_string.specs.Order.{AreBytes}
use Rattle.output_list.proofs.OutputListLaws.{take-padded}
use borrow.Author.Tests.{le-leb}
use Rattle.lists.proofs.ListsLaws.{member_keep}
use Rattle.outcome.specs.Outcome.{answer}
use Rattle.header.specs.Header.{field_at}
use Rattle.block.specs.Block.{Block, is_ordinary}
use Rattle.block.specs.Survey.{ordinary, records_of}
use Rattle.query.specs.Query.{Query}
use Rattle.matching.specs.Matching.{matching}
use Rattle.matching.specs.ResultList.{room_for}
use Rattle.matching.proofs.ResultListLaws.{room_for_is}
use Rattle.search.specs.declared.Found.{Found}
use Rattle.search.specs.Search.{search_of, search_answer, opened_list, result_list}
use Rattle.tree.specs.Tree.{block_level}
use Rattle.checker.specs.Check.{accept_of, check_of, check_answer}
use Rattle.theorems_check.specs.Rules.{Rules}
use Rattle.theorems_check.proofs.AcceptLaws.{Rules⇒accepted}
use Rattle.theorems_check.proofs.CheckTheorems.{number_0⇒Rules}
use Rattle.theorems_tree.specs.Preorder.{preorder, AllBlocks}
use Rattle.theorems_search.specs.OpeningRule.{Opened, walk_order, RuleOpens}
use Rattle.theorems_search.specs.SearchedByRules.{QueryBytes, Searched, SearchedByRules}
use Rattle.theorems_search.proofs.Events.{search_events, opens_in}
use Rattle.theorems_tree.proofs.TreePreorder.{ordinary⇒preorder, preorder⇒ordinary, preorder_distinct}
use Rattle.theorems_search.proofs.KeptLaws.{Distinct⇒Once, kept_member, member_kept, kept_few, once_few}
use Rattle.theorems_search.proofs.SearchFinds.{accepted⇒SearchTree}
use Rattle.theorems_search.proofs.SearchRoom as rooms
use Rattle.theorems_search.proofs.SearchReads as reads
use Rattle.theorems_search.proofs.OpenedFile.{accepted_exactly, accepted_unique, accepted_root_first, accepted_once, accepted_in_vain}

-- what a search on lists of so many places answers, and what its lists hold at exit, are as claimed
abbrev pub SearchGives : (file : List ℕ) (bs : List Block) (q : Query) (opened : List ℕ) (places room : ℕ) → Type 0
SearchGives file bs q opened places room =
    Searched file bs q opened places room (search_answer (search_of file q places room)) (opened_list places (search_of file q places room)) (result_list room (search_of file q places room))

module _ (file : List ℕ) (bs : List Block) (accepted : accept_of file ≡ answer bs) where
  -- going down from the root in entry order with no test meets every ordinary block once, and nothing else
  pub walk_order_all : AllBlocks bs (walk_order file bs)
  unfolding walk_order
  walk_order_all =
      let k = accepted⇒SearchTree file bs accepted in
      record {
        all = ordinary⇒preorder bs (field_at file 16) k.tree;
        only = preorder⇒ordinary bs (field_at file 16) k.tree;
        once = Distinct⇒Once (preorder bs (block_level bs (field_at file 16)) (field_at file 16)) (preorder_distinct bs (field_at file 16) k.tree k.walked);
      }

  -- an ordinary block is listed exactly if the rule opens it
  pub listed⇔opens : (q : Query) (opened : List ℕ) → RuleOpens file bs q opened
      → (b : Block) → Memᴰ b bs → b.frame.level ≤ 63 → Memᴰ b.frame.start opened ↔ Opened bs (field_at file 16) q b.frame.start
  unfolding RuleOpens
  listed⇔opens q opened rule b m ordinary = (
    λ i. (kept_member (Opened bs (field_at file 16) q) (walk_order file bs) opened rule b.frame.start i).1,
    λ o. member_kept (Opened bs (field_at file 16) q) (walk_order file bs) opened rule b.frame.start (walk_order_all.all b m ordinary) o,
  )

  -- a place for each ordinary block is enough: no more are opened
  pub opened_few : (q : Query) (opened : List ℕ) → RuleOpens file bs q opened → length opened ≤ length (ordinary bs)
  unfolding RuleOpens ordinary is_ordinary
  opened_few q opened rule =
      let kept = kept_few (Opened bs (field_at file 16) q) (walk_order file bs) opened rule in
      let all = once_few (walk_order file bs) (map (λ b. b.frame.start) (ordinary bs)) walk_order_all.once among in
      let long = length-map (ordinary bs) (λ b. b.frame.start) in
      omega arith
    where
      among : (x : ℕ) → Memᴰ x (walk_order file bs) → Memᴰ x (map (λ b. b.frame.start) (ordinary bs))
      among x m =
          let (b, i, starts, low) = walk_order_all.only x m in
          subst (λ (y : ℕ). Memᴰ y (map (λ c. c.frame.start) (ordinary bs))) starts
          (Memᴰ.map (λ (c : Block). c.frame.start) (member_keep (λ c. is_ordinary c.frame.level) bs b i (le-leb b.frame.level 63 low)))

  module _ (bytes : AreBytes file) (q : Query) (asked : QueryBytes q) where
    -- the blocks that the search opens are those of the rule
    rule_opens : RuleOpens file bs q (opens_in (search_events bs (field_at file 16) q))
    unfolding RuleOpens walk_order
    rule_opens = accepted_exactly file bs accepted bytes q asked

    searched : (places room : ℕ) → length (opens_in (search_events bs (field_at file 16) q)) ≤ places → room_for (length (matching q (records_of bs))) ≤ room
        → SearchGives file bs q (opens_in (search_events bs (field_at file 16) q)) places room
    searched places room opened_fit matches_fit =
        record {
          number = reads.number file bs accepted q places room opened_fit matches_fit;
          place = reads.place file bs accepted q places room opened_fit matches_fit;
          same_number = reads.same_number file bs accepted q places room opened_fit matches_fit;
          same_place = reads.same_place file bs accepted q places room opened_fit matches_fit;
          same-matches = reads.same-matches file bs accepted q places room opened_fit matches_fit;
          same_results = reads.same_results file bs accepted q places room opened_fit matches_fit;
          listed = reads.listed file bs accepted q places room opened_fit matches_fit;
          counted = reads.counted file bs accepted q places room opened_fit matches_fit;
          exactly = listed⇔opens q (opens_in (search_events bs (field_at file 16) q)) rule_opens;
          root_first = accepted_root_first file bs accepted bytes q asked;
          once = accepted_once file bs accepted bytes q asked;
          in_vain = λ level below. let vain = accepted_in_vain file bs accepted bytes q asked level below in let few = vain.2 in (vain.0, vain.1, omega arith);
        }

    -- Demand 3. The rule determines the blocks to be opened: all blocks in walk order with exactly the opened ones kept. With a place for
    -- each of them, and room for the matches, the search is not refused, equals reading front to back and opens these blocks.
    pub search_equals_reading_and_opens_by_rule : (opened : List ℕ) × RuleOpens file bs q opened
        × ((places room : ℕ) → length opened ≤ places → room_for (length (matching q (records_of bs))) ≤ room → SearchGives file bs q opened places room)
    search_equals_reading_and_opens_by_rule = (opens_in (search_events bs (field_at file 16) q), rule_opens, searched)

    -- no other list is meant
    pub rule_unique : (opened other : List ℕ) → RuleOpens file bs q opened → RuleOpens file bs q other → opened ≡ other
    unfolding RuleOpens walk_order
    rule_unique opened other e f = accepted_unique file bs accepted bytes q asked opened e ∙ sym (accepted_unique file bs accepted bytes q asked other f)

    -- the exact edge of room, where `opened` are the blocks that the rule opens
    module _ (opened : List ℕ) (exactly : RuleOpens file bs q opened) (places room : ℕ) where
      same : opens_in (search_events bs (field_at file 16) q) ≡ opened
      same = rule_unique (opens_in (search_events bs (field_at file 16) q)) opened rule_opens exactly

      -- with room for the results: 26 exactly if the opened list has fewer places than blocks that the rule opens
      pub exact_26 : room_for (length (matching q (records_of bs))) ≤ room → ((search_answer (search_of file q places room)).number ≡ 26) ↔ (places < length opened)
      exact_26 matches_fit =
          subst (λ (l : List ℕ). ((search_answer (search_of file q places room)).number ≡ 26) ↔ (places < length l)) same (rooms.edge_26 file bs accepted q places room matches_fit)

      -- with room for the opened blocks: 27 exactly if the matches exceed the places of the result list
      pub exact_27 : length opened ≤ places → ((search_answer (search_of file q places room)).number ≡ 27) ↔ (room < length (matching q (records_of bs)))
      exact_27 opened_fit =
          subst (λ (n : ℕ). ((search_answer (search_of file q places room)).number ≡ 27) ↔ (room < n)) (room_for_is (length (matching q (records_of bs))))
          (rooms.edge_27 file bs accepted q places room (subst (λ (l : List ℕ). length l ≤ places) (sym same) opened_fit))

-- ---- the same from the rules, and from what the check answers

module _ (file : List ℕ) (bytes : AreBytes file) where
  pub Rules⇒searched : (bs : List Block) → Rules file bs → (q : Query) → QueryBytes q
      → (opened : List ℕ) × RuleOpens file bs q opened
      × ((places room : ℕ) → length opened ≤ places → room_for (length (matching q (records_of bs))) ≤ room → SearchGives file bs q opened places room)
  Rules⇒searched bs r q asked = search_equals_reading_and_opens_by_rule file bs (Rules⇒accepted file bs r) bytes q asked

  -- the check accepted the file, with whatever work list
  pub checked⇒searched : (work : ℕ) → (check_answer (check_of file work)).number ≡ 0
      → (bs : List Block) × Rules file bs × ((q : Query) → QueryBytes q → (opened : List ℕ) × RuleOpens file bs q opened
      × ((places room : ℕ) → length opened ≤ places → room_for (length (matching q (records_of bs))) ≤ room → SearchGives file bs q opened places room))
  checked⇒searched work z = let (bs, a) = number_0⇒Rules file work z in (bs, a.rules, Rules⇒searched bs a.rules)

-- ---- of an answer and lists that are the search's

module _ (file : List ℕ) (bytes : AreBytes file) (q : Query) (asked : QueryBytes q) (places room : ℕ) (r : Found) (list results : List ℕ) where
  pub search_by_rules : r ≡ search_answer (search_of file q places room) → list ≡ opened_list places (search_of file q places room)
      → results ≡ result_list room (search_of file q places room) → SearchedByRules file q places room r list results
  unfolding SearchedByRules
  search_by_rules told opened-list result-list bs accepted =
      let (opened, rule, whole) = search_equals_reading_and_opens_by_rule file bs accepted bytes q asked in
      (opened, rule, λ opened_fit matches_fit. rw (told, opened-list, result-list) (whole places room (omega arith) (omega arith)))

  -- the blocks opened are the first numbers of the list at exit, as many as are counted
  pub opened-listed : (bs : List Block) (opened : List ℕ) → Searched file bs q opened places room r list results → take r.opened list ≡ opened
  opened-listed bs opened s = ap (λ (n : ℕ). take n list) s.counted ∙ ap (take (length opened)) s.listed ∙ take-padded places opened
