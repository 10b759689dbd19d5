-- Laws of putting the index.
-- Assumes nothing.
use mathlib.Core.Path.{◌≡◌, refl, sym, ap, ◌∙◌, subst}
use mathlib.Core.Bool.{Bool, true, false, false≢true}
use mathlib.Core.Logic.{◌⊎◌, inl, inr}
use mathlib.Core.List.{List, [], ◌++◌, flat_map, append-nil}
use Prim.Native.Nat.{ℕ, ◌+◌, ◌-◌, ◌^◌, ◌≤◌, ◌<◌, min}
use Rattle.std.specs.Prelude.{Result, Ok, Err}
use Rattle.std.specs.Result.{is_err}
use native.Mathlib.Omega.{arith}
use lib.Dec.{leb}
use lib.ListN.{length, take, drop, length-drop, drop_of_length-le}
use lib.Seq.{take-take, take-append-le, take_all, length-take-le}
use borrow.Author.Tests.{le-leb, lt-leb}
use Rattle.output_list.specs.OutputList.{padded, zeros}
use Rattle.outcome.specs.Outcome.{Outcome, answer, refused, ◌>>=◌}
use Rattle.outcome.proofs.OutcomeLaws.{kept, broken, bind_answer, bind_refused, answer_not_refused, refused_not_answer}
use Rattle.output_bytes.specs.OutputBytes.{stored}
use Rattle.layout.specs.Index.{IndexBlock, index_bytes, index_over}
use Rattle.layout.specs.File.{file_fits}
use Rattle.index_encoder.specs.declared.Raised.{Raised}
use Rattle.outcome.specs.declared.Fault.{Fault}
use Rattle.outcome.specs.Fault.{number, said_at}
use Rattle.index_encoder.specs.Children.{children_from, start_at}
use Rattle.index_encoder.specs.Raise.{index_for, raise_of, raised_from, raised_of, with_index, IndexPut, LevelsPut}
use Rattle.index_encoder.proofs.StoredLaws.{by_order, stored_room}

-- ---- how much of an output a file may fill

pub room_limit : (room end : ℕ) → file_fits room end ≡ leb end (min room (2 ^ 30))
unfolding file_fits
room_limit room end =
    by_order room end (λ l. rw (lt-leb end room l) (sym (lt-leb end (min room (2 ^ 30)) (omega arith))))
    (λ l. rw (le-leb end room l)
    (by_order (2 ^ 30) end (λ m. lt-leb end (2 ^ 30) m ∙ sym (lt-leb end (min room (2 ^ 30)) (omega arith)))
    (λ m. le-leb end (2 ^ 30) m ∙ sym (le-leb end (min room (2 ^ 30)) (omega arith)))))

-- ---- the whole

module _ (o : List ℕ) (per_index from to : ℕ) where
  abbrev index : List IndexBlock
  index = index_for per_index o from to

  abbrev Said : Result Raised Fault → List ℕ → Type 0
  Said r new = (said_at 0 r ≡ raised_of per_index o from to) × IndexPut o new to (raise_of per_index o from to)

  said_refused : (fault : Fault) (n : ℕ) → number fault ≡ n → (new : List ℕ) → raise_of per_index o from to ≡ refused n 0 → take to new ≡ take to o
      → Said (Err fault) new
  unfolding said_at raised_of IndexPut
  said_refused fault n is new e kept = (
    ap (λ k. refused k 0) is ∙ sym (bind_refused (raise_of per_index o from to) _ n 0 e),
    subst (IndexPut o new to) (sym e) kept,
  )

  -- too few entries in an index block
  pub raise_few : (fault : Fault) → number fault ≡ 30 → per_index < 2 → Said (Err fault) o
  unfolding raise_of
  raise_few fault is h = said_refused fault 30 is o (broken (leb 2 per_index) 30 0 _ (lt-leb 2 per_index h)) refl

  module _ (two : 2 ≤ per_index) (room : ℕ) (fits : (end : ℕ) → file_fits (length o) end ≡ leb end room) where
    too_long : room < to + length (flat_map index_bytes index) → raise_of per_index o from to ≡ refused 31 0
    unfolding raise_of
    too_long h =
        kept (leb 2 per_index) 30 0 _ (le-leb 2 per_index two)
        ∙ broken (file_fits (length o) (to + length (flat_map index_bytes index))) 31 0 _ (fits _ ∙ lt-leb _ room h)

    enough : to + length (flat_map index_bytes index) ≤ room → raise_of per_index o from to ≡ answer index
    unfolding raise_of
    enough h =
        kept (leb 2 per_index) 30 0 _ (le-leb 2 per_index two)
        ∙ kept (file_fits (length o) (to + length (flat_map index_bytes index))) 31 0 _ (fits _ ∙ le-leb _ room h)

    -- the blocks themselves don't fit
    pub raise_late : (fault : Fault) → number fault ≡ 31 → room < to → Said (Err fault) o
    raise_late fault is h = said_refused fault 31 is o (too_long (omega arith)) refl

    -- in the part of the output that a file may fill
    module _ (within : room ≤ length o) (low : to ≤ room) (new : List ℕ) (long : length new ≡ length (take room o)) where
      same : index_for per_index (take room o) from to ≡ index
      unfolding index_for
      same = ap (λ l. index_over per_index to (children_from l (start_at from))) (take-take to room o low)

      kept_front : take to new ≡ take to (take room o) → take to (new ++ drop room o) ≡ take to o
      kept_front e = let cut = length-take-le room o within in
          take-append-le to new (drop room o) (omega arith) ∙ e ∙ take-take to room o low

      pub raise_put : (r : Result Raised Fault) → LevelsPut (take room o) new to (index_for per_index (take room o) from to) r → Said r (new ++ drop room o)
      unfolding LevelsPut said_at raised_of IndexPut
      raise_put (Err fault) p =
          let cut = length-take-le room o within in
          let over : length (take room o) < to + length (flat_map index_bytes index) =
          subst (λ l. length (take room o) < to + length (flat_map index_bytes l)) same p.1 in
          said_refused fault 31 p.0 (new ++ drop room o) (too_long (omega arith)) (kept_front p.2)
      raise_put (Ok r) p =
          let cut = length-take-le room o within in
          let fit : to + length (flat_map index_bytes index) ≤ length (take room o) =
          subst (λ l. to + length (flat_map index_bytes l) ≤ length (take room o)) same p.1 in
          let e = enough (omega arith) in (
            ap answer (p.0 ∙ ap (raised_from to) same) ∙ sym (bind_answer (raise_of per_index o from to) _ index e),
            subst (IndexPut o (new ++ drop room o) to) (sym e)
                (ap (λ l. l ++ drop room o) (p.2 ∙ ap (λ l. stored (take room o) to (flat_map index_bytes l)) same)
                ∙ stored_room o to (flat_map index_bytes index) room within (omega arith)),
          )

  -- ---- what `put_index` leaves

  -- the index is put
  pub index_put : (new : List ℕ) (r : Result Raised Fault) (x : Raised) → r ≡ Ok x → Said r new
      → (said_at 0 (Ok x) ≡ raised_of per_index o from to) × (new ≡ with_index o to (raise_of per_index o from to))
  unfolding said_at raised_of IndexPut with_index
  index_put new r x told p = let said = sym (ap (said_at 0) told) ∙ p.0 in (said, go (raise_of per_index o from to) said p.1)
    where
      go : (y : Outcome (List IndexBlock)) → answer x ≡ (y >>= λ bs. answer (raised_from to bs)) → IndexPut o new to y → new ≡ with_index o to y
      go (answer bs) e put = put
      go (refused number place) e put =
          absurd (answer_not_refused x number place (e ∙ bind_refused {A = List IndexBlock} (refused number place) _ number place refl))

  module _ (new : List ℕ) (r : Result Raised Fault) (fault : Fault) (told : r ≡ Err fault) (p : Said r new) (long : length new ≡ length o) where
    -- zeros stand from `to` on
    cleared : (last : List ℕ) → last ≡ take to new ++ zeros (length new - to)
        → (said_at 0 (Err fault) ≡ raised_of per_index o from to) × (last ≡ with_index o to (raise_of per_index o from to))
    unfolding said_at raised_of IndexPut with_index
    cleared last e = let said = sym (ap (said_at 0) told) ∙ p.0 in (said, e ∙ go (raise_of per_index o from to) said p.1)
      where
        go : (y : Outcome (List IndexBlock)) → refused (number fault) 0 ≡ (y >>= λ bs. answer (raised_from to bs)) → IndexPut o new to y
            → take to new ++ zeros (length new - to) ≡ with_index o to y
        go (answer bs) e put =
            absurd (refused_not_answer (raised_from to bs) (number fault) 0 (e ∙ bind_answer {A = List IndexBlock} (answer bs) _ bs refl))
        go (refused number place) e put = ap (λ l. l ++ zeros (length new - to)) put ∙ ap (λ k. take to o ++ zeros (k - to)) long

    -- the output is cleared from `to` on
    pub index_cleared : {zs : List ℕ} → zs ≡ zeros (length (take (length new - to) (drop to new)))
        → (said_at 0 (Err fault) ≡ raised_of per_index o from to)
        × (take to new ++ (zs ++ drop (length new - to) (drop to new)) ≡ with_index o to (raise_of per_index o from to))
    index_cleared {zs} e = cleared (take to new ++ (zs ++ drop (length new - to) (drop to new))) (ap (λ l. take to new ++ l) all)
      where
        rest : length (drop to new) ≡ length new - to
        rest = length-drop to new

        all : zs ++ drop (length new - to) (drop to new) ≡ zeros (length new - to)
        all =
            ap (λ l. zs ++ l) (drop_of_length-le (drop to new) {i = length new - to} (omega (arith, rest)))
            ∙ append-nil zs
            ∙ e
            ∙ ap (λ l. zeros (length l)) (take_all (length new - to) (drop to new) (omega (arith, rest)))
            ∙ ap zeros rest

    -- or it ends before `to`
    pub index_short : length new ≤ to → (said_at 0 (Err fault) ≡ raised_of per_index o from to) × (new ≡ with_index o to (raise_of per_index o from to))
    unfolding zeros padded
    index_short h = cleared new (sym (append-nil new) ∙ ap (λ l. l ++ []) (sym (take_all to new h)) ∙ ap (λ k. take to new ++ zeros k) none)
      where
        none : 0 ≡ length new - to
        none = omega arith

  -- the output after that, as the code tells the two apart
  module _ (new : List ℕ) (long : length new ≡ length o) where
    -- a refusal, and the output is cleared from `to` on
    pub index_failed : (r : Result Raised Fault) → Said r new → true ≡ is_err r → {zs : List ℕ}
        → zs ≡ zeros (length (take (length new - to) (drop to new)))
        → take to new ++ (zs ++ drop (length new - to) (drop to new)) ≡ with_index o to (raise_of per_index o from to)
    index_failed (Ok r) p failed e = absurd (false≢true (sym failed))
    index_failed (Err fault) p failed e = (index_cleared new (Err fault) fault refl p long e).1

    -- no refusal, or the output ends before `to`
    pub index_left : (r : Result Raised Fault) → Said r new → {failed : Bool} → failed ≡ is_err r
        → ((failed ≡ true) × (length new ≤ to)) ⊎ (failed ≡ false) → new ≡ with_index o to (raise_of per_index o from to)
    index_left (Ok r) p e either = (index_put new (Ok r) r refl p).1
    index_left (Err fault) p e (inr none) = absurd (false≢true (sym none ∙ e))
    index_left (Err fault) p e (inl short) = (index_short new (Err fault) fault refl p long short.1).1
