-- The width of an operator's result, and whether its arguments fit.
use Rattle.std.proofs.Common.{◌≡◌, ℕ, Bool, true, false, ◌&&◌, List, [], ◌∷◌, length, Option, Some, None, IfSome, slice_index, ◌==◌, option_map, option_and_then, arith, refl, sym, ap, ◌∙◌}
use Rattle.std.specs.List.{list_all}
use Rattle.std.proofs.lemmas.Bool.{eqb-true, eq-eqb, and_parts, and_from, false≢true}
use Rattle.std.proofs.lemmas.Option.{IfSome_then}
use Rattle.gal_bits.specs.declared.op.Op.{Op}
use Rattle.gal_bits.specs.declared.op.Op.TheVariants.{Not, Shl, Shr, Eq, Ne, Lt, Le, Cast, Select, Adjust}
use Rattle.gal_bits.specs.Fits.{same_list}
use Rattle.element_lang.specs.Rules.{is_width, same_widths, fits_operator}
use Rattle.element_lang.specs.Surface.{written_width}
use Rattle.element_text.specs.Resolve.{when, width_of_one, width_of_two, width_of_choice, accepted_width}
use Rattle.element_text.proofs.Optional.{if_bound, if_when, if_map}

-- ## Lists of widths

pub own_widths : (xs : List ℕ) → same_widths xs xs ≡ true
own_widths [] = refl
own_widths (x ∷ xs) = and_from _ _ (eq-eqb x x refl) (own_widths xs)

pub lists_same : (xs ys : List ℕ) → xs ≡ ys → same_widths xs ys ≡ true
lists_same xs ys e = ap (same_widths xs) (sym e) ∙ own_widths xs

-- ## What the width of a result says of the arguments

of_one : (ws : List ℕ) → IfSome (width_of_one ws) (λ w. ws ≡ w ∷ [])
of_one [] = tt
of_one (a ∷ []) = refl
of_one (a ∷ b ∷ ws) = tt

of_two : (ws : List ℕ) → IfSome (width_of_two ws) (λ w. ws ≡ w ∷ w ∷ [])
of_two [] = tt
of_two (a ∷ []) = tt
of_two (a ∷ b ∷ []) = if_when (a == b) (Some a) (λ w. a ∷ b ∷ [] ≡ w ∷ w ∷ []) (λ e. ap (λ x. a ∷ x ∷ []) (sym (eqb-true a b e)))
of_two (a ∷ b ∷ c ∷ ws) = tt

of_choice : (ws : List ℕ) → IfSome (width_of_choice ws) (λ w. ws ≡ 1 ∷ w ∷ w ∷ [])
of_choice [] = tt
of_choice (a ∷ []) = tt
of_choice (a ∷ b ∷ []) = tt
of_choice (a ∷ b ∷ c ∷ []) = if_when (a == 1 && b == c) (Some b) (λ w. a ∷ b ∷ c ∷ [] ≡ 1 ∷ w ∷ w ∷ []) (λ e.
    let p = and_parts _ _ e in
    rw (eqb-true a 1 p.0, eqb-true b c p.1))
of_choice (a ∷ b ∷ c ∷ d ∷ ws) = tt

-- the test of two numbers has the width 1
abbrev Compared : List ℕ → ℕ → Type 0
Compared ws w = (w == 1 && same_widths ws (slice_index ws 0 ∷ slice_index ws 0 ∷ [])) ≡ true

compared_fits : (ws : List ℕ) → IfSome (option_map (λ w. 1) (width_of_two ws)) (Compared ws)
compared_fits ws = if_map (width_of_two ws) (λ w. 1) (λ w. ws ≡ w ∷ w ∷ []) (Compared ws) (of_two ws) (λ w e.
    lists_same ws (slice_index ws 0 ∷ slice_index ws 0 ∷ []) (e ∙ ap (λ x. x ∷ x ∷ []) (sym (ap (λ l. slice_index l 0) e))))

-- what is known of a result's width: the arguments fit, and what is written is what is written back
abbrev pub Fitting : Op → ℕ → List ℕ → ℕ → Type 0
Fitting op written ws w = (fits_operator op w ws ≡ true) × (written_width op w ≡ written)

-- of an operator with no written width
unwritten : (written : ℕ) (o : Option ℕ) (P : ℕ → Type 0) → IfSome o P → IfSome (when (written == 0) o) (λ w. P w × (0 ≡ written))
unwritten written o P h =
    if_when (written == 0) o (λ w. P w × (0 ≡ written)) (λ e. IfSome_then o {Q = λ w. P w × (0 ≡ written)} h (λ w p. (p, sym (eqb-true written 0 e))))

-- where the list of the arguments is known
listed : (written : ℕ) (ws : List ℕ) (o : Option ℕ) (f : ℕ → List ℕ) → IfSome o (λ w. ws ≡ f w)
    → IfSome (when (written == 0) o) (λ w. (same_widths ws (f w) ≡ true) × (0 ≡ written))
listed written ws o f h =
    unwritten written o (λ w. same_widths ws (f w) ≡ true) (IfSome_then o {Q = λ w. same_widths ws (f w) ≡ true} h (λ w e. lists_same ws (f w) e))

pub result_fits : (op : Op) (written : ℕ) (ws : List ℕ) → IfSome (accepted_width op written ws) (Fitting op written ws)
result_fits Not written ws = listed written ws (width_of_one ws) (λ w. w ∷ []) (of_one ws)
result_fits Shl written ws = unwritten written None (λ w. false ≡ true) tt
result_fits Shr written ws = unwritten written None (λ w. false ≡ true) tt
result_fits Eq written ws = unwritten written _ (Compared ws) (compared_fits ws)
result_fits Ne written ws = unwritten written _ (Compared ws) (compared_fits ws)
result_fits Lt written ws = unwritten written _ (Compared ws) (compared_fits ws)
result_fits Le written ws = unwritten written _ (Compared ws) (compared_fits ws)
result_fits Cast written ws =
    let Q = Fitting Cast written ws in
    if_bound (width_of_one ws) (λ w. when (is_width written) (Some written)) _ Q (of_one ws) (λ w e.
    if_when (is_width written) (Some written) Q (λ good. (and_from _ _ good (eq-eqb (length ws) 1 (ap length e)), refl)))
result_fits Select written ws = listed written ws (width_of_choice ws) (λ w. 1 ∷ w ∷ w ∷ []) (of_choice ws)
result_fits Adjust written ws =
    let P : ℕ → Type 0 = λ w. (w == 16 && same_widths ws (16 ∷ 16 ∷ 16 ∷ [])) ≡ true in
    unwritten written (when (same_widths ws (16 ∷ 16 ∷ 16 ∷ [])) (Some 16)) P (if_when (same_widths ws (16 ∷ 16 ∷ 16 ∷ [])) (Some 16) P (λ e. e))
result_fits _ written ws = listed written ws (width_of_two ws) (λ w. w ∷ w ∷ []) (of_two ws)

-- ## The width of a result, where the arguments fit

two_of : (ws : List ℕ) (w : ℕ) → same_widths ws (w ∷ w ∷ []) ≡ true → width_of_two ws ≡ Some w
two_of ws w e = let own = eq-eqb w w refl in rw (same_list ws (w ∷ w ∷ []) e, own)

compared : (ws : List ℕ) (w : ℕ) → (w == 1 && same_widths ws (slice_index ws 0 ∷ slice_index ws 0 ∷ [])) ≡ true → option_map (λ v. 1) (width_of_two ws) ≡ Some w
compared ws w e = let p = and_parts _ _ e in ap (option_map (λ v. 1)) (two_of ws _ p.1) ∙ ap Some (sym (eqb-true w 1 p.0))

cast_of : (ws : List ℕ) (w : ℕ) → (is_width w && length ws == 1) ≡ true → option_and_then (λ v. when (is_width w) (Some w)) (width_of_one ws) ≡ Some w
cast_of [] w e = absurd (false≢true (and_parts _ _ e).1)
cast_of (a ∷ []) w e = ap (λ b. when b (Some w)) (and_parts (is_width w) true e).0
cast_of (a ∷ b ∷ ws) w e = absurd (omega (arith, eqb-true (length (a ∷ b ∷ ws)) 1 (and_parts _ _ e).1))

pub fitting_result : (op : Op) (w : ℕ) (ws : List ℕ) → fits_operator op w ws ≡ true → accepted_width op (written_width op w) ws ≡ Some w
fitting_result Not w ws e = ap width_of_one (same_list ws (w ∷ []) e)
fitting_result Shl w ws e = absurd (false≢true e)
fitting_result Shr w ws e = absurd (false≢true e)
fitting_result Eq w ws e = compared ws w e
fitting_result Ne w ws e = compared ws w e
fitting_result Lt w ws e = compared ws w e
fitting_result Le w ws e = compared ws w e
fitting_result Cast w ws e = cast_of ws w e
fitting_result Select w ws e = let own = eq-eqb w w refl in rw (same_list ws (1 ∷ w ∷ w ∷ []) e, own)
fitting_result Adjust w ws e = let p = and_parts _ _ e in ap (λ b. when b (Some 16)) p.1 ∙ ap Some (sym (eqb-true w 16 p.0))
fitting_result _ w ws e = two_of ws w e

-- ## A result is 1 to 64 bits wide where its arguments are

-- the first of the arguments is
first_wide : (ws : List ℕ) (w : ℕ) (rest : List ℕ) → same_widths ws (w ∷ rest) ≡ true → list_all is_width ws ≡ true → is_width w ≡ true
first_wide ws w rest e wide = (and_parts (is_width w) _ (rw (same_list ws (w ∷ rest) e) at wide)).0

-- the width is this number, which is one
number_wide : (w n : ℕ) (b : Bool) → (w == n && b) ≡ true → is_width n ≡ true → is_width w ≡ true
number_wide w n b e wide = ap is_width (eqb-true w n (and_parts _ _ e).0) ∙ wide

pub result_wide : (op : Op) (w : ℕ) (ws : List ℕ) → fits_operator op w ws ≡ true → list_all is_width ws ≡ true → is_width w ≡ true
result_wide Not w ws e wide = first_wide ws w [] e wide
result_wide Shl w ws e wide = absurd (false≢true e)
result_wide Shr w ws e wide = absurd (false≢true e)
result_wide Eq w ws e wide = number_wide w 1 _ e refl
result_wide Ne w ws e wide = number_wide w 1 _ e refl
result_wide Lt w ws e wide = number_wide w 1 _ e refl
result_wide Le w ws e wide = number_wide w 1 _ e refl
result_wide Cast w ws e wide = (and_parts _ _ e).0
result_wide Select w ws e wide = (and_parts (is_width w) _ (rw (same_list ws (1 ∷ w ∷ w ∷ []) e) at wide)).0
result_wide Adjust w ws e wide = number_wide w 16 _ e refl
result_wide _ w ws e wide = first_wide ws w (w ∷ []) e wide
