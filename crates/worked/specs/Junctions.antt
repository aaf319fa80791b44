-- The worked junctions, each as what the words of its book mean.
-- padded: the words of one pair of items, or of one item, with zeros up to 32
-- .._rows: the row words of the pairs of items, in the pairs' order
-- j1: edition 7, three linked items with 2, 4 and 4 options, in which option 0 of item 0 has partners and no path partner
-- j2, j3: edition 1 like those below; three items with two options, four items with three options, all linked, equal numbers forbidden
-- j4, j6: one item, two unlinked items, of one option each
-- j7: two items with greens from 0 or 30 and from 10 or 40 seconds, which have to be 20 seconds apart
use Rattle.std.specs.Prelude.{ℕ, ◌-◌, List, [], ◌∷◌, ◌++◌, length, replicate}
use Rattle.meaning.specs.Meaning.{Meaning}
use Rattle.meaning.specs.Grid.{grid_of}
use Rattle.meaning.specs.Clearance.{clearance_of}

abbrev pub padded : List ℕ → List ℕ
padded ws = ws ++ replicate (32 - length ws) 0

-- option 0 of item 0 stands with options 0 and 1 of items 1 and 2, option 1 with all;
-- options 0 and 1 of item 1 stand with options 2 and 3 of item 2, options 2 and 3 with 0 and 1
abbrev pub j1_rows : List ℕ
j1_rows = padded (3 ∷ 15 ∷ []) ++ (padded (3 ∷ 15 ∷ []) ++ padded (12 ∷ 12 ∷ 3 ∷ 3 ∷ []))

abbrev pub j1 : Meaning
j1 = grid_of 7 3 (2 ∷ 4 ∷ 4 ∷ []) (6 ∷ 5 ∷ 3 ∷ []) j1_rows

-- each of two options stands with the other
abbrev other_of_two : List ℕ
other_of_two = padded (2 ∷ 1 ∷ [])

abbrev pub j2_rows : List ℕ
j2_rows = other_of_two ++ (other_of_two ++ other_of_two)

abbrev pub j2 : Meaning
j2 = grid_of 1 3 (2 ∷ 2 ∷ 2 ∷ []) (6 ∷ 5 ∷ 3 ∷ []) j2_rows

-- each of three options stands with the two others
abbrev others_of_three : List ℕ
others_of_three = padded (6 ∷ 5 ∷ 3 ∷ [])

abbrev pub j3_rows : List ℕ
j3_rows = others_of_three ++ (others_of_three ++ (others_of_three ++ (others_of_three ++ (others_of_three ++ others_of_three))))

abbrev pub j3 : Meaning
j3 = grid_of 1 4 (3 ∷ 3 ∷ 3 ∷ 3 ∷ []) (14 ∷ 13 ∷ 11 ∷ 7 ∷ []) j3_rows

abbrev pub j4 : Meaning
j4 = grid_of 1 1 (1 ∷ []) (0 ∷ []) []

abbrev pub j6 : Meaning
j6 = grid_of 1 2 (1 ∷ 1 ∷ []) (0 ∷ 0 ∷ []) (padded [])

abbrev pub j7 : Meaning
j7 = clearance_of 1 2 (2 ∷ 2 ∷ []) (padded (0 ∷ 30 ∷ []) ++ padded (10 ∷ 40 ∷ [])) (20 ∷ [])
