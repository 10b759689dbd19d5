-- What the writer answers, and what it leaves in the output.
-- Assumes nothing.
use mathlib.Core.Path.{◌≡◌, refl, sym, ap, ◌∙◌}
use mathlib.Core.Bool.{Bool, true, false, not, false≢true}
use mathlib.Core.Logic.{◌⊎◌, inl, inr}
use mathlib.Core.List.{List}
use Rattle.std.specs.Prelude.{Option, Some, None, Result, Ok, Err}
use Rattle.std.specs.Option.{ok_or, is_some}
use Rattle.std.specs.Result.{IsErrAnd}
use Rattle.std.proofs.lemmas.Result.{err_from_is_err_and}
use Prim.Native.Nat.{ℕ, ◌+◌}
use native.Mathlib.Omega.{arith}
use lib.ListN.{length}
use Rattle.lists.specs.Groups.{groups}
use Rattle.output_list.specs.OutputList.{zeros}
use Rattle.outcome.specs.Outcome.{Outcome, answer, refused, ◌>>=◌, number_of, place_of, count_of, list_of}
use Rattle.outcome.specs.declared.Fault.{Fault}
use Rattle.outcome.specs.declared.Fault.TheVariants.{OutputRoom}
use Rattle.outcome.specs.Fault.{number, said_at}
use Rattle.outcome.proofs.OutcomeLaws.{kept, broken, bind_answer, bind_refused, bind⁻¹, map_refused⁻¹, answer_injective}
use Rattle.layout.specs.File.{file_of, file_fits}
use Rattle.written.specs.declared.Written.{Written}
use Rattle.written.specs.Written.{written_answer, written_output}
use Rattle.writer.specs.Steps.{tested, length_of}
use Rattle.writer.specs.Write.{records_to_write, write_of}
use Rattle.file_encoder.specs.Begun.{FilePut}
use Rattle.file_encoder.proofs.FitLaws.{end_some, end_none}
use Rattle.writer.proofs.InputRuleLaws.{Known, some, none, known}

-- ---- what is answered

module _ (o : Outcome (List ℕ)) where
  -- the length of the file
  pub answers_length : (n : ℕ) → answer n ≡ length_of o → ◌≡◌ {A = Written} (record { number = 0; place = 0; length = n }) (written_answer o)
  unfolding length_of written_answer number_of place_of count_of
  answers_length n e =
      let file = bind⁻¹ o _ n (sym e) in
      ap (λ (k : ℕ). record { number = 0; place = 0; length = k }) (sym (answer_injective _ n file.2)) ∙ sym (ap written_answer file.1)

  -- a refusal
  pub answers_refusal : (n : ℕ) → refused n 0 ≡ length_of o → written_answer (refused n 0) ≡ written_answer o
  unfolding length_of
  answers_refusal n e = sym (ap written_answer (map_refused⁻¹ o length n 0 (sym e)))

-- ---- what is written

module _ (metadata input : List ℕ) (b i room : ℕ) where
  abbrev R : Outcome (List (List ℕ))
  R = records_to_write metadata input b i

  abbrev W : Outcome (List ℕ)
  W = write_of metadata input b i room

  -- the answer, and the output, which had zeros
  abbrev Left : Result ℕ Fault → List ℕ → Type 0
  Left r output = (said_at 0 r ≡ length_of (write_of metadata input b i room)) × (output ≡ written_output room (write_of metadata input b i room))

  -- no refusal: there are records
  pub input_passed : answer tt ≡ tested (records_to_write metadata input b i) → (rs : List (List ℕ)) × (records_to_write metadata input b i ≡ answer rs)
  unfolding tested
  input_passed e = let known = bind⁻¹ R _ tt (sym e) in (known.0, known.1)

  refusal : (fault : Fault) → W ≡ refused (number fault) 0 → Left (Err fault) (zeros room)
  unfolding said_at length_of written_output list_of
  refusal fault e = (sym (bind_refused W _ (number fault) 0 e), sym (ap (written_output room) e))

  -- a refusal before the file is made
  pub write_refused : (n : ℕ) → n ≡ number_of (records_to_write metadata input b i) → (n ≡ 0 → ⊥)
      → (written_answer (refused n 0) ≡ written_answer (write_of metadata input b i room))
      × (zeros room ≡ written_output room (write_of metadata input b i room))
  unfolding number_of place_of count_of list_of write_of written_answer written_output ◌>>=◌
  write_refused n e s = go (known metadata input b i)
    where
      go : Known R → (written_answer (refused n 0) ≡ written_answer W) × (zeros room ≡ written_output room W)
      go (some rs h) = absurd (s (e ∙ ap number_of h))
      go (none m t h) =
          let W-is : W ≡ refused m 0 = bind_refused R _ m 0 h in
          (ap (λ (k : ℕ). written_answer (refused k 0)) (e ∙ ap number_of h) ∙ sym (ap written_answer W-is), sym (ap (written_output room) W-is))

  -- as the code hands it on
  pub write_stops : (fault : Fault) → refused (number fault) 0 ≡ tested (records_to_write metadata input b i) → (r : Result ℕ Fault)
      → IsErrAnd r (λ f. f ≡ fault) → {output : List ℕ} → output ≡ zeros room → Left r output
  unfolding tested write_of
  write_stops fault e r told h =
      let handed = err_from_is_err_and r told in
      rw (handed.1, handed.2, h) (refusal fault (bind_refused R _ (number fault) 0 (map_refused⁻¹ R (λ rs. tt) (number fault) 0 (sym e))))

  module _ (rs : List (List ℕ)) (read : records_to_write metadata input b i ≡ answer rs) (end : Option ℕ) (output : List ℕ)
      (put : FilePut room (file_of metadata (groups b rs) i) end output) where
    abbrev file : List ℕ
    file = file_of metadata (groups b rs) i

    full : file_fits room (length file) ≡ false → W ≡ refused 31 0
    unfolding write_of
    full h = bind_answer R _ rs read ∙ broken (file_fits room (length file)) 31 0 _ h

    whole : file_fits room (length file) ≡ true → W ≡ answer file
    unfolding write_of
    whole h = bind_answer R _ rs read ∙ kept (file_fits room (length file)) 31 0 _ h

    -- the file doesn't fit
    pub write_full : None ≡ end → Left (Err OutputRoom) (zeros room)
    unfolding number
    write_full e = refusal OutputRoom (full (ap (file_fits room) (sym (front (length file))) ∙ end_none room 0 file (e ∙ put.ends)))
      where
        front : (n : ℕ) → 0 + n ≡ n
        front n = omega arith

    -- the file is written
    pub write_done : (n : ℕ) → Some n ≡ end → Left (Ok n) output
    unfolding said_at length_of written_output list_of
    write_done n e =
        let reach = end_some room 0 file (e ∙ put.ends) in
        let long : n ≡ length file = let end = reach.0 in omega arith in
        let all = whole (ap (file_fits room) (sym long) ∙ reach.1) in
        (ap answer long ∙ sym (bind_answer W _ file all), put.stands n (sym e) ∙ sym (ap (written_output room) all))

  -- one of the two, where the output was cleared if there is no length
  pub write_ended : (rs : List (List ℕ)) → records_to_write metadata input b i ≡ answer rs → (end : Option ℕ) (output : List ℕ)
      → FilePut room (file_of metadata (groups b rs) i) end output → {failed : Bool} → is_some end ≡ not failed → {left : List ℕ}
      → ((failed ≡ true) × (left ≡ zeros room)) ⊎ ((failed ≡ false) × (left ≡ output)) → {r : Result ℕ Fault} → r ≡ ok_or end OutputRoom → Left r left
  write_ended rs read None output put e (inl h) told = rw (told, h.1) (write_full rs read None output put refl)
  write_ended rs read None output put e (inr h) told = absurd (false≢true (e ∙ ap not h.0))
  write_ended rs read (Some n) output put e (inl h) told = absurd (false≢true (sym (e ∙ ap not h.0)))
  write_ended rs read (Some n) output put e (inr h) told = rw (told, h.1) (write_done rs read (Some n) output put n refl)
