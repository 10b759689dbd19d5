-- The header's rules hold exactly where the header is accepted.
-- Assumes nothing.
use mathlib.Core.Path.{◌≡◌, refl}
use mathlib.Core.Bool.{Bool, true, false, false≢true}
use mathlib.Core.List.{List}
use Prim.Native.Nat.{ℕ}
use native.Mathlib.Omega.{arith}
use lib.ListN.{drop}
use borrow.Author.Tests.{eqb-true, eq-eqb}
use Rattle.byte_string.specs.Order.{begins}
use Rattle.byte_string.proofs.PrefixLaws.{take_begins, begins_of_take, begins_both}
use Rattle.outcome.specs.Outcome.{answer}
use Rattle.part.specs.Part.{part}
use Rattle.header.specs.declared.Header.{Header}
use Rattle.header.specs.Header.{magic, unfinished_magic, codec_none, header_crc_right, header_numbers, header_of}
use Rattle.header.proofs.HeaderLaws.{IsHeader, is_header, header_is}
use Rattle.theorems_check.specs.Rules.{HeaderRules}

-- ---- the magic

-- a file does not begin with both magics
finished_of : (file : List ℕ) → begins magic file ≡ true → begins unfinished_magic file ≡ false
unfolding magic unfinished_magic begins
finished_of file h = go (begins unfinished_magic file) refl
  where
    go : (b : Bool) → begins unfinished_magic file ≡ b → begins unfinished_magic file ≡ false
    go true e = absurd (false≢true (begins_both unfinished_magic magic file e h (omega arith)))
    go false e = e

-- ---- the whole header

pub header⇒HeaderRules : (file : List ℕ) (h : Header) → header_of file ≡ answer h → HeaderRules file
unfolding magic codec_none header_crc_right part
header⇒HeaderRules file h e = go (is_header file h e)
  where
    go : IsHeader file h → HeaderRules file
    go i =
        record {
          short = i.small;
          finished = take_begins magic file i.opens;
          whole = i.whole;
          fields = i.fields;
          room = i.room;
          checked = eqb-true _ _ i.crc;
          codec = take_begins codec_none (drop 72 file) i.codec;
          total = i.total;
          metadata = i.metadata_rule;
        }

pub HeaderRules⇒header : (file : List ℕ) → HeaderRules file → header_of file ≡ answer (header_numbers file)
unfolding magic codec_none header_crc_right part header_numbers
HeaderRules⇒header file r =
    let whole = r.whole in
    let opens = begins_of_take magic file r.finished in
    header_is file (header_numbers file)
    (record {
      small = r.short;
      finished = finished_of file opens;
      opens = opens;
      long = omega arith;
      whole = whole;
      crc = eq-eqb _ _ r.checked;
      fields = r.fields;
      room = r.room;
      codec = begins_of_take codec_none (drop 72 file) r.codec;
      total = r.total;
      metadata_rule = r.metadata;
      is_blocks = refl;
      is_root_lem = refl;
      is_rootsize = refl;
      is_metadata_lem = refl;
    })
