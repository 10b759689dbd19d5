-- The session of a stage: its numbers, and when session and output are those of a stage.
use Rattle.std.specs.Prelude.{ℕ, ◌+◌, ◌-◌, ◌≤◌, ◌≡◌, true, cond, Result, Ok, Err, eqb, length}
use mathlib.Core.List.{List, [], ◌∷◌, flat_map, Memᴰ}
use Rattle.lists.specs.Groups.{last_or}
use Rattle.lists.specs.Lists.{any}
use Rattle.outcome.specs.Outcome.{Outcome, number_of, place_of}
use Rattle.outcome.specs.declared.Fault.{Fault}
use Rattle.outcome.specs.Fault.{number}
use Rattle.byte_string.specs.Order.{AreBytes}
use Rattle.crc64.specs.Crc64.{register_start, register}
use Rattle.header.specs.Metadata.{is_metadata}
use Rattle.payload.specs.Payload.{rising}
use Rattle.layout.specs.Blocks.{records_bytes, data_bytes}
use Rattle.layout.specs.File.{blocks_start, counts_fit, file_fits}
use Rattle.layout.proofs.KeyLaws.{Filled}
use Rattle.session_value.specs.declared.Session.{Session}
use Rattle.session_value.specs.declared.Stepped.{Stepped}
use Rattle.session_value.specs.Stage.{Draft, Stage, afresh, begun, finished, draft_blocks, draft_records, data_end, draft_file, output_of}
use Rattle.session_value.specs.Steps.{after}

-- the offset of the last record, which ends before its block's CRC; 0 where there is none
unfoldable pub last_offset : Draft → ℕ
last_offset d = cond (eqb (length (draft_records d)) 0) 0 (data_end d - 8 - length (last_or [] (draft_records d)))

-- the session of a stage; once finished it keeps nothing but the figures
unfoldable pub session_of : Stage → Session
session_of afresh =
    record {
      records = 0;
      last = 0;
      next = 0;
      stage = 0;
      blocks = 0;
      perblock = 0;
      perindex = 0;
      start = 0;
      count = 0;
      payload = 0;
      crc = 0;
    }
session_of (begun d) =
    record {
      records = length (draft_records d);
      last = last_offset d;
      next = data_end d;
      stage = 1;
      blocks = blocks_start d.metadata;
      perblock = d.per_block;
      perindex = d.per_index;
      start = blocks_start d.metadata + length (flat_map data_bytes d.closed);
      count = length d.current;
      payload = length (records_bytes d.current);
      crc = register register_start (0 ∷ records_bytes d.current);
    }
session_of (finished d) =
    record {
      records = length (draft_records d);
      last = last_offset d;
      next = length (draft_file d);
      stage = 2;
      blocks = 0;
      perblock = 0;
      perindex = 0;
      start = 0;
      count = 0;
      payload = 0;
      crc = 0;
    }

-- what the steps keep to: counts in range, sound metadata, blocks that are neither empty nor too full, records that rise, and bytes
pub record SoundDraft (d : Draft) : Type 0 where
  pub counts : counts_fit d.per_block d.per_index ≡ true
  pub rule : is_metadata d.metadata ≡ true
  pub metadata_bytes : AreBytes d.metadata
  pub filled : Filled d.closed
  pub no_fuller : (rs : List (List ℕ)) → Memᴰ rs d.closed → length rs ≤ d.per_block
  pub current_no_fuller : length d.current ≤ d.per_block
  pub rises : rising (draft_records d) ≡ true
  pub bytes : AreBytes (flat_map records_bytes (draft_blocks d))

-- and that what is written fits
unfoldable pub Sound : (room : ℕ) → Stage → Type 0
Sound room afresh = Unit {0}
Sound room (begun d) = SoundDraft d × (file_fits room (data_end d) ≡ true)
Sound room (finished d) = SoundDraft d × (1 ≤ length (draft_records d)) × (file_fits room (length (draft_file d)) ≡ true)

-- session and output are those of a stage, as the steps hand them back
pub record Held (stage : Stage) (session : Session) (output : List ℕ) : Type 0 where
  pub session_is : session ≡ session_of stage
  pub output_is : output ≡ output_of (length output) stage
  pub sound : Sound (length output) stage

-- what a step from this session answers: the session after it, or why it is refused
unfoldable pub stepped : Session → Result Session Fault → Stepped
stepped old (Ok new) = record { number = 0; place = 0; session = new }
stepped old (Err fault) = record { number = number fault; place = 0; session = old }

-- what a step answers: its refusal, and the session after it
unfoldable pub stepped_answer : Stage → Outcome Stage → Stepped
stepped_answer stage o = record { number = number_of o; place = place_of o; session = session_of (after stage o) }

-- A step is taken from this stage on, with this outcome, in an output of `room` bytes: the answer is the step's, and session and output are those
-- of what is written then.
pub record StepTaken (stage : Stage) (o : Outcome Stage) (room : ℕ) (r : Stepped) (output : List ℕ) : Type 0 where
  pub answered : r ≡ stepped_answer stage o
  pub long : length output ≡ room
  pub held : Held (after stage o) r.session output

-- a number is one of these
unfoldable pub OneOf : List ℕ → ℕ → Type 0
OneOf numbers n = any (λ m. eqb m n) numbers ≡ true
