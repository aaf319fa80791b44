-- No line of a right junction's text has an end inside, so that the text is cut into its lines.
use Rattle.std.proofs.Common.{◌≡◌, ℕ, zero, suc, ◌+◌, ◌<◌, ◌≤◌, true, List, [], ◌∷◌, map, get_or, decimal, sym, refl, subst, inl, inr, arith, ◌∙◌}
use Rattle.std.specs.List.{range_with_len, flat_map}
use Rattle.std.proofs.lemmas.Bool.{cases_Bool, cond-true, cond-false, and_from}
use Rattle.meaning.specs.Grid.{place}
use Rattle.sheets.specs.Fields.{cut}
use Rattle.sheets.specs.Texts.{Sheet, first, is_given, item_line, lines_of, opening_line, pair_line, pair_lines, pair_names, is_right, second, text_of, ◌·◌, item_lines, all_pair_lines}
use Rattle.sheets.proofs.Cutting.{AllFree, Free, cut_ended, decimal_free, free_append, is_free}
use Rattle.sheets.proofs.Partners.{partners_free}
use Rattle.sheets.proofs.Right as right
use Rattle.sheets.proofs.Places.{given_parts}
use Rattle.std.proofs.lemmas.List.Folds.{list_all-append}

comma_free : (x y : List ℕ) → Free 10 x → Free 10 y → Free 10 (x · y)
comma_free x y f g = free_append 10 x (44 ∷ y) f g

small_free : (n : ℕ) → n < 10000 → Free 10 (decimal n)
small_free n h = decimal_free 10 n (omega arith) (omega arith)

map_free : (f : ℕ → List ℕ) (a n : ℕ) → ((x : ℕ) → a ≤ x → x < a + n → Free 10 (f x)) → AllFree 10 (map f (range_with_len a n))
map_free f a zero h = refl
map_free f a (suc n) h = and_from _ _ (h a (omega arith) (omega arith)) (map_free f (a + 1) n (λ x l k. h x (omega arith) (omega arith)))

join_free : (f : ℕ → List (List ℕ)) (a n : ℕ) → ((x : ℕ) → x < a + n → AllFree 10 (f x)) → AllFree 10 (flat_map f (range_with_len a n))
join_free f a zero h = refl
join_free f a (suc n) h = list_all-append (is_free 10) (f a) (flat_map f (range_with_len (a + 1) n)) ∙ and_from _ _ (h a (omega arith)) (join_free f (a + 1) n (λ x l. h x (omega arith)))

module _ (s : Sheet) (ok : is_right s ≡ true) where
  opening_free : Free 10 (opening_line s.opening)
  opening_free =
      comma_free (decimal s.opening.asked) (decimal s.opening.edition · decimal s.opening.items) (small_free s.opening.asked (omega (arith, right.asked_most s ok)))
      (comma_free (decimal s.opening.edition) (decimal s.opening.items) (small_free s.opening.edition (omega (arith, right.edition_most s ok))) (small_free s.opening.items (omega (arith, right.items_most s ok))))

  item_free : (i : ℕ) → i < s.opening.items → Free 10 (item_line s i)
  item_free i l =
      comma_free (decimal i) (decimal (get_or s.counts i 0)) (small_free i (omega (arith, right.items_most s ok))) (small_free (get_or s.counts i 0) (omega (arith, right.count_most s ok i l)))

  pair_free : (q a : ℕ) → q < 1024 → a < 32 → Free 10 (pair_line s q a)
  pair_free q a l k =
      comma_free (decimal (first q)) _ (small_free (first q) (omega arith))
      (comma_free (decimal (second q)) _ (small_free (second q) (omega arith))
      (comma_free (decimal a) _ (small_free a (omega arith)) (partners_free 10 (get_or s.counts (second q) 0) (get_or s.rows (place (first q) a (second q)) 0) (omega arith))))

  pairs_free : (q : ℕ) → q < 1024 → AllFree 10 (pair_lines s q)
  pairs_free q l =
      elim (cases_Bool (is_given s q)) [
        | inl yes' ↦
            subst (AllFree 10) (sym (cond-true _ _ _ yes'))
            (let p = given_parts s q yes' in map_free (pair_line s q) 0 (get_or s.counts (first q) 0) (λ a k m. pair_free q a l (omega (arith, right.count_most s ok (first q) (omega (arith, p.low, p.there))))))
        | inr not' ↦ subst (AllFree 10) (sym (cond-false _ _ _ not')) refl
      ]

  lines_free : AllFree 10 (lines_of s)
  lines_free =
      let items = map_free (item_line s) 0 s.opening.items (λ i l k. item_free i (omega arith)) in
      let pairs = join_free (pair_lines s) 0 1024 (λ q l. pairs_free q (omega arith)) in
      and_from _ _ opening_free (list_all-append (is_free 10) (item_lines s) (pair_names ∷ all_pair_lines s) ∙ and_from _ _ items pairs)

  pub lines_cut : cut (text_of s) ≡ record { lines = lines_of s; rest = [] }
  lines_cut = cut_ended (lines_of s) lines_free
