-- Sessions as the code makes them, one of another.
use Rattle.std.specs.Prelude.{ℕ, ◌+◌, ◌-◌, Bool, ◌&&◌, cond, Option, ◌∷◌, [], leb, eqb, length}
use Rattle.std.specs.Bool.{then_some}
use Rattle.uleb128.specs.Encoding.{encoding}
use Rattle.crc64.specs.Crc64.{register_start, register}
use Rattle.layout.specs.Blocks.{block_size}
use Rattle.layout.specs.File.{file_fits}
use Rattle.session_value.specs.declared.Session.{Session}

-- a session between begin and finish, whose numbers an output of `room` bytes can hold; every one that a step hands back there is
unfoldable pub is_begun : Session → (room : ℕ) → Bool
is_begun s room = (eqb s.stage 1 && file_fits room s.next) && ((leb s.payload s.next && leb s.records s.next) && leb s.count 65535)

-- a file is begun, and its blocks begin at `from`
unfoldable pub begun_session : (from per_block per_index : ℕ) → Session
begun_session from per_block per_index =
    record {
      records = 0;
      last = 0;
      next = from;
      stage = 1;
      blocks = from;
      perblock = per_block;
      perindex = per_index;
      start = from;
      count = 0;
      payload = 0;
      crc = register register_start (0 ∷ []);
    }

-- the open block is closed, and none is open
unfoldable pub closed_session : Session → Session
closed_session s =
    record {
      records = s.records;
      last = s.last;
      next = s.next;
      stage = s.stage;
      blocks = s.blocks;
      perblock = s.perblock;
      perindex = s.perindex;
      start = s.next;
      count = 0;
      payload = 0;
      crc = register register_start (0 ∷ []);
    }

-- the open block is closed where it is full
unfoldable pub unfull_session : Session → Session
unfull_session s = cond (leb s.perblock s.count) (closed_session s) s

-- the bytes that a record of n bytes takes
unfoldable pub text_size : (n : ℕ) → ℕ
text_size n = length (encoding n) + n

-- the size of the open block framed with a record of n bytes more, where it fits
unfoldable pub framed_size : Session → (n room : ℕ) → Option ℕ
framed_size s n room =
    let size = block_size (s.payload + text_size n) in
    then_some (file_fits room (s.start + size)) size

-- a record of n bytes is in the open block, which now has this size and this register
unfoldable pub added_session : Session → (n size crc : ℕ) → Session
added_session s n size crc =
    record {
      records = s.records + 1;
      last = s.start + size - 8 - n;
      next = s.start + size;
      stage = s.stage;
      blocks = s.blocks;
      perblock = s.perblock;
      perindex = s.perindex;
      start = s.start;
      count = s.count + 1;
      payload = s.payload + text_size n;
      crc = crc;
    }

-- the file is finished, and this long
unfoldable pub finished_session : Session → (total : ℕ) → Session
finished_session s total =
    record {
      records = s.records;
      last = s.last;
      next = total;
      stage = 2;
      blocks = 0;
      perblock = 0;
      perindex = 0;
      start = 0;
      count = 0;
      payload = 0;
      crc = 0;
    }
