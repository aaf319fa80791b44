-- What the parts of a clearance book mean, and which parts its check refuses. Starts of green and gaps are in seconds.
-- green i a: when option a of item i starts its green
-- gap_of i j: how far apart the starts of items i and j have to be; 0 where nothing is asked
-- apart x y: how far the starts x and y are from each other
-- .._right: a start, a gap has nothing that the check forbids
-- clearance_of: the meaning that an edition, a number of items, counts, starts and gaps give
-- clearance_meaning: what checked parts mean; clearance_sizes, clearance_contents: the two tests of a clearance book's parts
use Rattle.std.specs.Prelude.{ℕ, ◌+◌, ◌-◌, ◌*◌, Bool, if◌then◌else◌, ◌&&◌, List, length, nat_le, nat_lt, slice_index}
use Rattle.bits.specs.Below.{every}
use Rattle.meaning.specs.Limits.{counts_right, options_in}
use Rattle.meaning.specs.Meaning.{Meaning}
use Rattle.meaning.specs.Pairs.{pair, pairs_for}
use Rattle.meaning.specs.declared.parts.ClearanceParts.{ClearanceParts}

abbrev pub green : List ℕ → ℕ → ℕ → ℕ
green starts i a = slice_index starts (32 * i + a)

abbrev pub gap_of : List ℕ → ℕ → ℕ → ℕ
gap_of gaps i j = if nat_lt i j then slice_index gaps (pair i j) else (if nat_lt j i then slice_index gaps (pair j i) else 0)

abbrev pub apart : ℕ → ℕ → ℕ
apart x y = (x - y) + (y - x)

abbrev pub green_right : List ℕ → ℕ → ℕ → Bool
green_right starts i a = nat_le (green starts i a) 3599

abbrev pub gap_right : List ℕ → ℕ → Bool
gap_right gaps k = nat_le (slice_index gaps k) 3600

-- the starts of the options that exist
abbrev pub greens_right : ℕ → List ℕ → List ℕ → Bool
greens_right n counts starts = every n (λ i. every (slice_index counts i) (green_right starts i))

abbrev pub gaps_right : ℕ → List ℕ → Bool
gaps_right n gaps = every (pairs_for n) (gap_right gaps)

abbrev pub contents_right : ℕ → List ℕ → List ℕ → List ℕ → Bool
contents_right n counts starts gaps = counts_right n counts && (greens_right n counts starts && gaps_right n gaps)

abbrev pub sizes_right : ℕ → List ℕ → List ℕ → List ℕ → Bool
sizes_right n counts starts gaps = (nat_le n (length counts) && nat_le (32 * n) (length starts)) && nat_le (pairs_for n) (length gaps)

-- a gap of 0 links nothing, and any two starts are as far apart as that
abbrev pub clearance_of : ℕ → ℕ → List ℕ → List ℕ → List ℕ → Meaning
clearance_of edition n counts starts gaps = record {
  edition = edition;
  items = n;
  options = options_in n counts;
  linked = λ i j. (nat_lt i n && nat_lt j n) && nat_le 1 (gap_of gaps i j);
  together = λ i a j b. (nat_lt a (options_in n counts i) && nat_lt b (options_in n counts j)) && nat_le (gap_of gaps i j) (apart (green starts i a) (green starts j b));
}

abbrev pub clearance_meaning : ClearanceParts → Meaning
clearance_meaning p = clearance_of p.edition p.items p.counts.now p.starts.now p.gaps.now

abbrev pub clearance_sizes : ClearanceParts → Bool
clearance_sizes p = sizes_right p.items p.counts.now p.starts.now p.gaps.now

abbrev pub clearance_contents : ClearanceParts → Bool
clearance_contents p = contents_right p.items p.counts.now p.starts.now p.gaps.now
