-- The fields of a line: numbers of one to four digits without a needless leading zero, and partners as zeros and ones.
-- parted sep s: the bytes before the first sep, and those after it
-- cut s: the lines of s, each ended by byte 10, and the unended bytes after the last of them
-- number_of s: the number that s writes, below 10,000
-- partners k w: the k lowest bits of w, the lowest first; are_bits s: zeros and ones only; word_of s: the word they write
-- opening_of, item_of, pair_of: the fields of a line of that form, if it has the form
use Rattle.std.specs.Prelude.{ℕ, ◌+◌, ◌-◌, ◌*◌, Bool, if◌then◌else◌, ◌&&◌, ◌||◌, List, [], ◌∷◌, map, Some, None, Option, option_and_then, ◌==◌, nat_lt}
use Rattle.std.specs.Char.{is_ascii_digit}
use Rattle.std.specs.List.{list_all, range_with_len}
use Rattle.std.specs.Option.{option_map}
use Rattle.bits.specs.Below.{one_if}
use Rattle.bits.specs.Bits.{bit}
use Rattle.sheets.specs.declared.draft.Opening.{Opening}

-- what the line of an item says, and a line of a pair
pub record ItemLine : Type 0 where
  pub item : ℕ
  pub options : ℕ

pub record PairLine : Type 0 where
  pub first : ℕ
  pub second : ℕ
  pub option : ℕ
  pub partners : List ℕ

-- the pair of a line, by the number that it has in the text
abbrev pub pair_number : PairLine → ℕ
pair_number l = 32 * l.first + l.second

pub record Parted : Type 0 where
  pub before : List ℕ
  pub after : List ℕ

abbrev pub longer : ℕ → Parted → Parted
longer b p = record p { before = b ∷ p.before }

abbrev pub parted : ℕ → List ℕ → Option Parted
parted sep [] = None
parted sep (b ∷ bs) = if b == sep then Some (record { before = []; after = bs }) else option_map (longer b) (parted sep bs)

pub record Cut : Type 0 where
  pub lines : List (List ℕ)
  pub rest : List ℕ

-- a byte more in front of the first line
abbrev pub begun : ℕ → List (List ℕ) → List ℕ → Cut
begun b [] rest = record { lines = []; rest = b ∷ rest }
begun b (l ∷ ls) rest = record { lines = (b ∷ l) ∷ ls; rest = rest }

abbrev pub cut : List ℕ → Cut
cut [] = record { lines = []; rest = [] }
cut (b ∷ bs) =
    if b == 10 then record { lines = [] ∷ (cut bs).lines; rest = (cut bs).rest }
    else begun b (cut bs).lines (cut bs).rest

-- v, with the digits s after it; a fifth digit is refused
abbrev pub digits_after : ℕ → List ℕ → Option ℕ
digits_after v [] = Some v
digits_after v (b ∷ bs) = if is_ascii_digit b && nat_lt v 1000 then digits_after (v * 10 + (b - 48)) bs else None

abbrev pub zero_alone : List ℕ → Option ℕ
zero_alone [] = Some 0
zero_alone (b ∷ bs) = None

abbrev pub number_of : List ℕ → Option ℕ
number_of [] = None
number_of (b ∷ bs) = if b == 48 then zero_alone bs else digits_after 0 (b ∷ bs)

abbrev pub partners : ℕ → ℕ → List ℕ
partners k w = map (λ b. 48 + one_if (bit w b)) (range_with_len 0 k)

abbrev pub are_bits : List ℕ → Bool
are_bits s = list_all (λ b. b == 48 || b == 49) s

abbrev pub word_of : List ℕ → ℕ
word_of [] = 0
word_of (b ∷ bs) = (b - 48) + 2 * word_of bs

-- goes on with a field that is there
infixl 10 ◌>>=◌
abbrev pub ◌>>=◌ : {A B : Type 0} → Option A → (A → Option B) → Option B
o >>= f = option_and_then f o

abbrev pub opening_of : List ℕ → Option Opening
opening_of l = do
  p ← parted 44 l
  q ← parted 44 p.after
  asked ← number_of p.before
  edition ← number_of q.before
  items ← number_of q.after
  Some (record { asked = asked; edition = edition; items = items })

abbrev pub item_of : List ℕ → Option ItemLine
item_of l = do
  p ← parted 44 l
  i ← number_of p.before
  c ← number_of p.after
  Some (record { item = i; options = c })

abbrev pub pair_of : List ℕ → Option PairLine
pair_of l = do
  p ← parted 44 l
  q ← parted 44 p.after
  r ← parted 44 q.after
  i ← number_of p.before
  j ← number_of q.before
  a ← number_of r.before
  if are_bits r.after then Some (record { first = i; second = j; option = a; partners = r.after }) else None
