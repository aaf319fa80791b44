-- The text of a junction: the one sheet that says it.
-- Sheet: a junction in the grid book's layout, opened by the edition asked for, the edition of its tables and its number of items
-- opening_right, is_right: both editions, the sizes and the contents are within what the grid book's check accepts
-- item_lines, all_pair_lines: the lines of its items, and those of its pairs, in the order of their numbers
-- lines_of: the lines of its text; text_of: these lines, each ended by byte 10
-- first q, second q: the items of the pair q; is_given s q: the pair q is a linked one, its lower item first
-- Same s t: two sheets say the same junction and both editions
use Rattle.std.specs.Prelude.{◌≡◌, ℕ, ◌/◌, ◌%◌, ◌<◌, Bool, if◌then◌else◌, ◌&&◌, List, [], ◌∷◌, ◌++◌, map, codes, decimal, nat_lt, slice_index}
use Rattle.std.specs.List.{range_with_len, flat_map}
use Rattle.meaning.specs.Grid.{contents_right, link_bit, place, sizes_right}
use Rattle.meaning.specs.Limits.{limits_right, within}
use Rattle.meaning.specs.declared.parts.GridParts.{GridParts}
use Rattle.sheets.specs.declared.draft.Draft.{Draft}
use Rattle.sheets.specs.declared.draft.Opening.{Opening}
use Rattle.sheets.specs.Fields.{partners}

pub record Sheet : Type 0 where
  pub opening : Opening
  pub counts : List ℕ
  pub links : List ℕ
  pub rows : List ℕ

abbrev pub sheet_of : Draft → Sheet
sheet_of d = record { opening = d.opening; counts = d.counts; links = d.links; rows = d.rows }

abbrev pub sheet_of_parts : ℕ → GridParts → Sheet
sheet_of_parts asked p = record {
  opening = record { asked = asked; edition = p.edition; items = p.items };
  counts = p.counts.now;
  links = p.links.now;
  rows = p.rows.now;
}

abbrev pub opening_right : Opening → Bool
opening_right o = within o.asked 9999 && limits_right o.edition o.items

abbrev pub is_right : Sheet → Bool
is_right s =
    opening_right s.opening
    && (sizes_right s.opening.items s.counts s.links s.rows && contents_right s.opening.items s.counts s.links s.rows)

abbrev pub opening_names : List ℕ
opening_names = codes "asked,tables,items"

abbrev pub item_names : List ℕ
item_names = codes "item,options"

abbrev pub pair_names : List ℕ
pair_names = codes "first,second,option,partners"

-- two fields with a comma between them
infixr 40 ◌·◌
abbrev pub ◌·◌ : List ℕ → List ℕ → List ℕ
x · y = x ++ (44 ∷ y)

abbrev pub opening_line : Opening → List ℕ
opening_line o = decimal o.asked · (decimal o.edition · decimal o.items)

abbrev pub item_line : Sheet → ℕ → List ℕ
item_line s i = decimal i · decimal (slice_index s.counts i)

abbrev pub first : ℕ → ℕ
first q = q / 32

abbrev pub second : ℕ → ℕ
second q = q % 32

abbrev pub is_given : Sheet → ℕ → Bool
is_given s q = (nat_lt (first q) (second q) && nat_lt (second q) s.opening.items) && link_bit s.links (first q) (second q)

abbrev pub pair_line : Sheet → ℕ → ℕ → List ℕ
pair_line s q a =
    decimal (first q) · (decimal (second q) · (decimal a · partners (slice_index s.counts (second q)) (slice_index s.rows (place (first q) a (second q)))))

-- a line for each option of the pair's first item
abbrev pub pair_lines : Sheet → ℕ → List (List ℕ)
pair_lines s q = if is_given s q then map (pair_line s q) (range_with_len 0 (slice_index s.counts (first q))) else []

abbrev pub item_lines : Sheet → List (List ℕ)
item_lines s = map (item_line s) (range_with_len 0 s.opening.items)

abbrev pub all_pair_lines : Sheet → List (List ℕ)
all_pair_lines s = flat_map (pair_lines s) (range_with_len 0 1024)

abbrev pub lines_of : Sheet → List (List ℕ)
lines_of s = opening_names ∷ opening_line s.opening ∷ item_names ∷ (item_lines s ++ (pair_names ∷ all_pair_lines s))

abbrev pub ended : List ℕ → List ℕ
ended l = l ++ (10 ∷ [])

abbrev pub text_of : Sheet → List ℕ
text_of s = flat_map ended (lines_of s)

pub record Same (s t : Sheet) : Type 0 where
  pub opening : s.opening ≡ t.opening
  pub counts : (i : ℕ) → i < s.opening.items → slice_index s.counts i ≡ slice_index t.counts i
  pub links : (i : ℕ) → i < s.opening.items → slice_index s.links i ≡ slice_index t.links i
  pub rows : (i a j : ℕ) → i < j → j < s.opening.items → a < 32 → slice_index s.rows (place i a j) ≡ slice_index t.rows (place i a j)
