-- What a sheet is read as: the first faulty line decides, and in it 9 comes before 10 and 10 before 11.
-- start: nothing is given yet
-- opening, item, pair: what a line of that form makes of the draft d, or its fault; k is its number
-- is_there d l: the items and the option of the pair line l are among those read
-- is_turn e l: the pair line l is the next one, where e is due
-- due_after n q a: what is due after the option a of the pair q, whose first item has n options
-- step d k l: the same for the line that is due after d; follow: for several lines, from line k on
-- is_whole: nothing more is due after line k
-- reading b: the junction that the bytes b give, or the refusal due to them
use Rattle.std.specs.Prelude.{ℕ, ◌+◌, ◌^◌, Bool, if◌then◌else◌, not, ◌&&◌, List, [], ◌∷◌, length, replicate, Some, None, Ok, Err, Option, Result, ◌==◌, bit_or, nat_le, nat_lt, slice_index, slice_set}
use Rattle.std.specs.Str.{bytes_eq}
use Rattle.meaning.specs.Grid.{place}
use Rattle.meaning.specs.Limits.{within}
use Rattle.meaning.specs.declared.refusal.Refusal.{Refusal}
use Rattle.meaning.specs.declared.refusal.Refusal.TheVariants.{Malformed, OutOfLimits, OutOfTurn, MemoryShort}
use Rattle.sheets.specs.declared.draft.Draft.{Draft}
use Rattle.sheets.specs.declared.draft.Due.{Due}
use Rattle.sheets.specs.declared.draft.Opening.{Opening}
use Rattle.sheets.specs.Fields.{ItemLine, PairLine, cut, item_of, opening_of, pair_number, pair_of, word_of}
use Rattle.sheets.specs.Texts.{item_names, opening_names, opening_right, pair_names}

unfoldable pub start : Draft
start = record {
  opening = record { asked = 0; edition = 0; items = 0 };
  counts = replicate 32 0;
  links = replicate 32 0;
  rows = replicate 15872 0;
  due = record { pair = 0; option = 0 };
}

abbrev pub opening : Draft → ℕ → Option Opening → Result Draft Refusal
opening d k None = Err (Malformed k)
opening d k (Some o) =
    if opening_right o then Ok (record d { opening = o })
    else Err (OutOfLimits k)

abbrev pub with_count : Draft → ℕ → ℕ → Draft
with_count d i c = record d { counts = slice_set d.counts i c }

abbrev pub item : Draft → ℕ → Option ItemLine → Result Draft Refusal
item d k None = Err (Malformed k)
item d k (Some l) =
    if not (nat_lt l.item d.opening.items && within l.options 32) then Err (OutOfLimits k)
    else if not (4 + l.item == k) then Err (OutOfTurn k)
    else Ok (with_count d l.item l.options)

abbrev pub is_there : Draft → PairLine → Bool
is_there d l = nat_lt l.first d.opening.items && (nat_lt l.second d.opening.items && nat_lt l.option (slice_index d.counts l.first))

-- after the last option of a pair any later pair may come, from its option 0 on
abbrev pub is_turn : Due → PairLine → Bool
is_turn e l =
    nat_lt l.first l.second
    && (l.option == e.option && (if e.option == 0 then nat_le e.pair (pair_number l) else e.pair == pair_number l))

abbrev pub due_after : ℕ → ℕ → ℕ → Due
due_after n q a = if nat_lt (a + 1) n then record { pair = q; option = a + 1 } else record { pair = q + 1; option = 0 }

abbrev pub with_link : List ℕ → ℕ → ℕ → List ℕ
with_link links i j = slice_set links i (bit_or (slice_index links i) (2 ^ j))

abbrev pub with_row : Draft → PairLine → Draft
with_row d l = record d {
  links = with_link (with_link d.links l.first l.second) l.second l.first;
  rows = slice_set d.rows (place l.first l.option l.second) (word_of l.partners);
  due = due_after (slice_index d.counts l.first) (pair_number l) l.option;
}

-- the length of the partners is judged only where the second item is there
abbrev pub pair : Draft → ℕ → Option PairLine → Result Draft Refusal
pair d k None = Err (Malformed k)
pair d k (Some l) =
    if nat_lt l.second d.opening.items && not (length l.partners == slice_index d.counts l.second) then Err (Malformed k)
    else if not (is_there d l) then Err (OutOfLimits k)
    else if not (is_turn d.due l) then Err (OutOfTurn k)
    else Ok (with_row d l)

abbrev pub names : Draft → ℕ → List ℕ → List ℕ → Result Draft Refusal
names d k due l = if bytes_eq l due then Ok d else Err (Malformed k)

abbrev pub step : Draft → ℕ → List ℕ → Result Draft Refusal
step d k l =
    if k == 1 then names d k opening_names l
    else if k == 2 then opening d k (opening_of l)
    else if k == 3 then names d k item_names l
    else if nat_lt k (4 + d.opening.items) then item d k (item_of l)
    else if k == 4 + d.opening.items then names d k pair_names l
    else pair d k (pair_of l)

-- goes on with a draft that was accepted
infixl 10 ◌>>=◌
abbrev pub ◌>>=◌ : Result Draft Refusal → (Draft → Result Draft Refusal) → Result Draft Refusal
Err e >>= f = Err e
Ok d >>= f = f d

abbrev pub follow : Draft → ℕ → List (List ℕ) → Result Draft Refusal
follow d k [] = Ok d
follow d k (l ∷ ls) = do
  d' ← step d k l
  follow d' (k + 1) ls

abbrev pub is_whole : Draft → ℕ → List ℕ → Bool
is_whole d k rest = length rest == 0 && (nat_lt (4 + d.opening.items) k && d.due.option == 0)

abbrev pub closing : ℕ → List ℕ → Draft → Result Draft Refusal
closing k rest d = if is_whole d k rest then Ok d else Err (Malformed k)

abbrev pub reading : List ℕ → Result Draft Refusal
reading b = follow start 1 (cut b).lines >>= closing (1 + length (cut b).lines) (cut b).rest

-- memory for 32 counts, 32 links and 15,872 rows, and a sheet that is not too long, come first
abbrev pub reading_into : List ℕ → ℕ → ℕ → ℕ → Result Draft Refusal
reading_into b counts links rows =
    if (nat_le 32 counts && (nat_le 32 links && nat_le 15872 rows)) && nat_le (length b) 65536 then reading b
    else Err MemoryShort
