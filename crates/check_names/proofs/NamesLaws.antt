-- Laws of 18, 19 and 20 as a whole: their ways out, and what they say of an accepted file.
-- Assumes nothing.
use mathlib.Core.Path.{◌≡◌, refl, sym, ap, ◌∙◌}
use mathlib.Core.List.{List}
use Prim.Native.Nat.{ℕ, ◌^◌, ◌≤◌, ◌<◌}
use lib.Dec.{leb}
use lib.ListN.{length}
use borrow.Author.Tests.{le-leb, lt-leb}
use Rattle.outcome.specs.Outcome.{Outcome, answer, refused, ◌>>◌, must}
use Rattle.outcome.specs.declared.Refusal.{Refusal}
use Rattle.outcome.specs.Fault.{number, said}
use Rattle.std.specs.Prelude.{Ok, Err}
use Rattle.outcome.proofs.OutcomeLaws.{kept, broken, after_answer, after_refused}
use Rattle.block.specs.Block.{Block, blocks_at}
use Rattle.block.specs.Survey.{ordinary}
use Rattle.block.specs.Laid.{laid_from}
use Rattle.block.proofs.LaidLaws.{blocks⇒laid}
use Rattle.tree.specs.Stages.{each, entries_fit, named_rightly, naming_of}
use Rattle.check_names.specs.Names.{names_of, entries_of, WordsKept, AllSeen}

module _ (file : List ℕ) (from root places : ℕ) where
  abbrev bs : List Block
  bs = laid_from file from

  -- a file that is too long: 1
  pub names_long : 2 ^ 30 < length file → refused 1 0 ≡ names_of file from root places
  unfolding names_of
  names_long h = sym (broken (leb (length file) (2 ^ 30)) 1 0 _ (lt-leb (length file) (2 ^ 30) h))

  module _ (short : length file ≤ 2 ^ 30) where
    -- one that is not: 18, then 19 and 20
    names_short : names_of file from root places ≡ (must (leb (length (ordinary bs)) places) 18 0 >> naming_of bs root)
    unfolding names_of
    names_short = kept (leb (length file) (2 ^ 30)) 1 0 _ (le-leb (length file) (2 ^ 30) short)

    -- of a file whose blocks are accepted
    pub names_accepted : (all : List Block) → blocks_at file from ≡ answer all
        → names_of file from root places ≡ (must (leb (length (ordinary all)) places) 18 0 >> naming_of all root)
    names_accepted all e =
        names_short ∙ ap (λ (l : List Block). must (leb (length (ordinary l)) places) 18 0 >> naming_of l root) (blocks⇒laid file from all e)

    module _ (n : ℕ) (many : n ≡ length (ordinary bs)) where
      -- no room: 18
      pub names_full : places < n → refused 18 0 ≡ names_of file from root places
      names_full few =
          sym (names_short ∙ broken (leb (length (ordinary bs)) places) 18 0 _ (ap (λ (k : ℕ). leb k places) (sym many) ∙ lt-leb n places few))

      -- room enough: 19, then 20
      names_room : n ≤ places → names_of file from root places ≡ naming_of bs root
      names_room enough =
          names_short ∙ kept (leb (length (ordinary bs)) places) 18 0 _ (ap (λ (k : ℕ). leb k places) (sym many) ∙ le-leb n places enough)

      module _ (enough : n ≤ places) (work : List ℕ) where
        -- 19 decides
        pub names_broken : (r : Refusal) → AllSeen file from work (Err r) → refused (number r.fault) r.place ≡ names_of file from root places
        unfolding naming_of said
        names_broken r s =
            sym (names_room enough ∙ after_refused (each (entries_fit bs) 19 (ordinary bs)) _ (number r.fault) r.place (sym s.fault))

        -- 20 decides
        pub names-counted : AllSeen file from work (Ok tt) → (o : Outcome (Unit {0}))
            → (WordsKept file from (entries_of (ordinary bs)) work → o ≡ each (named_rightly bs root) 20 (ordinary bs)) → o ≡ names_of file from root places
        unfolding naming_of said
        names-counted s o counted =
            counted (s.kept refl) ∙ sym (names_room enough ∙ after_answer (each (entries_fit bs) 19 (ordinary bs)) _ tt (sym s.fault))
