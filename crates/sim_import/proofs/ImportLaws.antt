-- What the import answers, and what it leaves in the output.
-- Assumes nothing.
use mathlib.Core.Path.{◌≡◌, refl, sym, ap, ◌∙◌}
use mathlib.Core.List.{List, map, ◌++◌}
use Prim.Native.Nat.{ℕ, ◌+◌, ◌%◌, ◌≤◌, ◌<◌}
use native.Mathlib.Omega.{arith}
use lib.Dec.{leb}
use lib.ListN.{length, take, drop, length-map}
use lib.Seq.{length-take-le}
use borrow.Author.Tests.{le-leb, lt-leb, eq-eqb, ne_eqb}
use Rattle.output_list.specs.OutputList.{zeros}
use Rattle.output_list.proofs.OutputListLaws.{padded-append, length-zeros}
use Rattle.output_bytes.proofs.OutputBytesLaws.{drop-zeros}
use Rattle.outcome.specs.Outcome.{Outcome, answer, refused, ◌>>=◌, ◌>>◌, must, number_of, place_of, count_of, list_of}
use Rattle.outcome.proofs.OutcomeLaws.{answer_injective, answer_not_refused, kept, broken, bind_answer, bind_refused, map_refused⁻¹}
use Rattle.written.specs.declared.Written.{Written}
use Rattle.written.specs.Written.{written_answer, written_output}
use Rattle.layout.specs.Blocks.{records_bytes}
use Rattle.sorting.specs.Sorting.{sorted}
use Rattle.sorting.proofs.SortedLaws.{sorted_permutation}
use Rattle.sim.specs.Adn.{record_of}
use Rattle.sim_import.specs.declared.survey.Survey.{Survey}
use Rattle.sim_import.specs.Import.{is_dump, occupied, imported_all, import_of}
use Rattle.sim_import.specs.Survey.{surveyed, survey_of}
use Rattle.sim_import.specs.Steps.{length_of, Whole, Exact}
use Rattle.sim_import.proofs.BytesLaws.{permutation_bytes}
use Rattle.sim_import.proofs.OccupiedLaws.{Known, some, none, known}

-- ---- what is said of how many bytes were put

pub said_put : (o : Outcome (List ℕ)) (n : ℕ) → answer n ≡ length_of o
    → ◌≡◌ {A = Written} (record { number = 0; place = 0; length = n }) (written_answer o)
unfolding written_answer length_of number_of place_of count_of ◌>>=◌
said_put (answer bytes) n e = rw (answer_injective n (length bytes) e)
said_put (refused m p) n e = absurd (answer_not_refused n m p e)

pub said_not : (o : Outcome (List ℕ)) (n : ℕ) → refused n 0 ≡ length_of o → written_answer (refused n 0) ≡ written_answer o
unfolding length_of
said_not o n e = rw (map_refused⁻¹ o length n 0 (sym e))

module _ (dump : List ℕ) (x room : ℕ) where
  -- what is said and left after a refusal
  said : (n : ℕ) → import_of dump x room ≡ refused n 0
      → (refused n 0 ≡ length_of (import_of dump x room)) × (zeros room ≡ written_output room (import_of dump x room))
  unfolding length_of written_output list_of ◌>>=◌
  said n e = rw e (refl, refl)

  -- 32: a name field of more than 241 bytes, or records that aren't whole
  pub said_wide : 241 < x → (refused 32 0 ≡ length_of (import_of dump x room)) × (zeros room ≡ written_output room (import_of dump x room))
  unfolding import_of is_dump must ◌>>◌ ◌>>=◌
  said_wide h = said 32 (rw (lt-leb x 241 h))

  pub said_broken : x ≤ 241 → (length dump % (x + 14) ≡ 0 → ⊥)
      → (refused 32 0 ≡ length_of (import_of dump x room)) × (zeros room ≡ written_output room (import_of dump x room))
  unfolding import_of is_dump must ◌>>◌ ◌>>=◌
  said_broken h n = said 32 (rw (le-leb x 241 h, ne_eqb (length dump % (x + 14)) 0 n))

  module _ (h : x ≤ 241) (w : length dump % (x + 14) ≡ 0) where
    abbrev all : Outcome (List (List ℕ))
    all = imported_all x (occupied x dump)

    abbrev given : List (List ℕ)
    given = map (record_of x) (occupied x dump)

    going : import_of dump x room
        ≡ (all >>= λ rs. must (leb (length (records_bytes (sorted rs))) room) 31 0 >> answer (records_bytes (sorted rs)))
    unfolding import_of is_dump must ◌>>◌
    going = rw (le-leb x 241 h, eq-eqb (length dump % (x + 14)) 0 w)

    -- 33 or 34: the first pass found it
    pub said_refused : (n : ℕ) → refused n 0 ≡ survey_of (imported_all x (occupied x dump))
        → (refused n 0 ≡ length_of (import_of dump x room)) × (zeros room ≡ written_output room (import_of dump x room))
    unfolding survey_of
    said_refused n e = said n (going ∙ bind_refused all _ n 0 (map_refused⁻¹ all surveyed n 0 (sym e)))

    module _ (found : Survey) (e : answer found ≡ survey_of (imported_all x (occupied x dump))) where
      answered : (all ≡ answer given) × (found ≡ surveyed given)
      unfolding survey_of ◌>>=◌
      answered = go all (known x (occupied x dump)) refl
        where
          go : (o : Outcome (List (List ℕ))) → Known x (occupied x dump) o → all ≡ o → (all ≡ answer given) × (found ≡ surveyed given)
          go o some q = (q, answer_injective found (surveyed given) (e ∙ ap survey_of q))
          go o (none m k) q = absurd (answer_not_refused found m 0 (e ∙ ap survey_of q))

      count_is : found.count ≡ length (occupied x dump)
      unfolding surveyed
      count_is = ap (λ (t : Survey). t.count) answered.1 ∙ length-map (occupied x dump) (record_of x)

      length-given : found.length ≡ length (records_bytes given)
      unfolding surveyed
      length-given = ap (λ (t : Survey). t.length) answered.1

      length_is : found.length ≡ length (records_bytes (sorted given))
      length_is = length-given ∙ sym (permutation_bytes (sorted_permutation given))

      -- 31: they are longer than the output
      pub said_full : room < found.length
          → (refused 31 0 ≡ length_of (import_of dump x room)) × (zeros room ≡ written_output room (import_of dump x room))
      said_full l = said 31 (going ∙ bind_answer all _ given answered.0 ∙ broken _ 31 0 _ (lt-leb _ room (rw (← length_is) l)))

      -- the output's front is as long as they are
      pub exactly : (output : List ℕ) → found.length ≤ length output → Exact x dump found.count (take found.length output)
      unfolding Whole
      exactly output l = record { whole = w; many = count_is; exact = length-take-le found.length output l ∙ length-given }

      -- they stand there, and zeros after them
      pub said_done : (output new : List ℕ) → output ≡ zeros room → found.length ≤ length output
          → new ≡ records_bytes (sorted (map (record_of x) (occupied x dump)))
          → (answer found.length ≡ length_of (import_of dump x room)) × (new ++ drop found.length output ≡ written_output room (import_of dump x room))
      unfolding length_of written_output list_of ◌>>=◌
      said_done output new c k s =
          let l : found.length ≤ room = omega (arith, ap length c ∙ length-zeros room) in
          let done : import_of dump x room ≡ answer (records_bytes (sorted given)) =
          going ∙ bind_answer all _ given answered.0 ∙ kept _ 31 0 _ (le-leb _ room (rw (← length_is) l)) in
          rw done (
            ap answer length_is,
            rw (c, s, drop-zeros found.length room, length_is) (sym (padded-append room (records_bytes (sorted given)))),
          )
