-- What the parts of a grid book mean, and which parts its check refuses.
-- place i a j: where the row word of option a of i against item j stands, for i < j
-- link_bit, row_bit: what a link word and a row word say
-- .._right: a link word, a row word has nothing that the check forbids
-- grid_of: the meaning that an edition, a number of items, counts, link words and row words give
-- grid_meaning: what checked parts mean; grid_sizes, grid_contents: the two tests of a grid book's parts; grid_check: the check's answer
use Rattle.std.specs.Prelude.{ℕ, ◌+◌, ◌-◌, ◌*◌, ◌^◌, Bool, true, false, if◌then◌else◌, not, ◌&&◌, ◌||◌, List, length, Result, ◌==◌, nat_le, nat_lt, slice_index}
use Rattle.bits.specs.Below.{every}
use Rattle.bits.specs.Bits.{bit}
use Rattle.meaning.specs.Limits.{counts_right, options_in}
use Rattle.meaning.specs.Meaning.{Meaning}
use Rattle.meaning.specs.Pairs.{pair}
use Rattle.meaning.specs.Parts.{parts_check}
use Rattle.meaning.specs.declared.parts.GridParts.{GridParts}
use Rattle.meaning.specs.declared.refusal.Refusal.{Refusal}

abbrev pub place : ℕ → ℕ → ℕ → ℕ
place i a j = 32 * pair i j + a

-- how many row words n items take
abbrev pub rows_for : ℕ → ℕ
rows_for n = 16 * (n * (n - 1))

abbrev pub link_bit : List ℕ → ℕ → ℕ → Bool
link_bit links i j = bit (slice_index links i) j

abbrev pub row_bit : List ℕ → ℕ → ℕ → ℕ → ℕ → Bool
row_bit rows i a j b = bit (slice_index rows (place i a j)) b

abbrev pub same : Bool → Bool → Bool
same true b = b
same false b = not b

-- no bit from n on, not the item's own bit, and links that are mutual
abbrev pub link_right : ℕ → List ℕ → ℕ → Bool
link_right n links i = (nat_lt (slice_index links i) (2 ^ n) && not (link_bit links i i)) && every n (λ j. same (link_bit links i j) (link_bit links j i))

-- of linked items and an existing option: no bit for a missing option; else 0
abbrev pub row_right : List ℕ → List ℕ → List ℕ → ℕ → ℕ → ℕ → Bool
row_right counts links rows j i a =
    if link_bit links i j && nat_lt a (slice_index counts i)
    then nat_lt (slice_index rows (place i a j)) (2 ^ slice_index counts j)
    else slice_index rows (place i a j) == 0

abbrev pub links_right : ℕ → List ℕ → Bool
links_right n links = every n (link_right n links)

abbrev pub rows_right : ℕ → List ℕ → List ℕ → List ℕ → Bool
rows_right n counts links rows = every n (λ j. every j (λ i. every 32 (row_right counts links rows j i)))

abbrev pub contents_right : ℕ → List ℕ → List ℕ → List ℕ → Bool
contents_right n counts links rows = counts_right n counts && (links_right n links && rows_right n counts links rows)

abbrev pub sizes_right : ℕ → List ℕ → List ℕ → List ℕ → Bool
sizes_right n counts links rows = (nat_le n (length counts) && nat_le n (length links)) && nat_le (rows_for n) (length rows)

abbrev pub grid_of : ℕ → ℕ → List ℕ → List ℕ → List ℕ → Meaning
grid_of edition n counts links rows = record {
  edition = edition;
  items = n;
  options = options_in n counts;
  linked = λ i j. (nat_lt i n && nat_lt j n) && link_bit links i j;
  together = λ i a j b. (nat_lt a (options_in n counts i) && nat_lt b (options_in n counts j))
      && (not (link_bit links i j) || (if nat_lt i j then row_bit rows i a j b else row_bit rows j b i a));
}

abbrev pub grid_meaning : GridParts → Meaning
grid_meaning p = grid_of p.edition p.items p.counts.now p.links.now p.rows.now

abbrev pub grid_sizes : GridParts → Bool
grid_sizes p = sizes_right p.items p.counts.now p.links.now p.rows.now

abbrev pub grid_contents : GridParts → Bool
grid_contents p = contents_right p.items p.counts.now p.links.now p.rows.now

abbrev pub grid_check : GridParts → Result (Unit {0}) Refusal
grid_check p = parts_check (grid_meaning p) (grid_sizes p) (grid_contents p)
