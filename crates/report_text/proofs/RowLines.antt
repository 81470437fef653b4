-- The lines of rows, printed and read.
use Rattle.std.proofs.Common.{◌≡◌, ℕ, ◌+◌, ◌^◌, ◌≤◌, ◌<◌, inl, inr, Bool, true, ◌&&◌, ltb, leb, List, [], ◌∷◌, ◌++◌, Some, refl, sym, ap, ◌∙◌, subst, arith, append_assoc}
use Rattle.std.specs.Prelude.{codes}
use Rattle.std.specs.Fmt.{decimal}
use Rattle.std.proofs.lemmas.Bool.{and_parts, cases_lt}
use Rattle.std.proofs.lemmas.List.{append-nil}
use Rattle.std.proofs.lemmas.Nat.{pow_pos}
use Rattle.std.proofs.Math.Pow.{pow_mono}
use Rattle.std.proofs.lemmas.Bool.Decides.{nat_tests}
use Rattle.std.proofs.lemmas.Option.{same_Some}
use Rattle.gal_io.specs.Number.{spaced_numbers}
use Rattle.state_store.specs.declared.object.Row.{Row}
use Rattle.state_store.specs.Kept.{have_widths}
use Rattle.run_text.specs.Report.{key_text}
use Rattle.report_text.specs.Form.{are_widths}
use Rattle.report_text.specs.Parse.{after, key_number, keys_at, most_of, number_at, row_of, values_at}
use Rattle.gal_io.proofs.Spaces.{is_cut}
use Rattle.report_text.proofs.Pieces.{after_back, after_is, bound, labelled_back, number_at_back, number_at_is, whole_is, numbered}

-- ---- widths

abbrev pub is_width : ℕ → Bool
is_width w = leb 1 w && leb w 64

pub width_small : (w : ℕ) → is_width w ≡ true → w ≤ 64
width_small w h = let p = and_parts (leb 1 w) (leb w 64) h in grind (arith, nat_tests, p.1)

-- for a width of at most 64 bits it is the greatest number
pub most_is : (w : ℕ) → w ≤ 64 → most_of w + 1 ≡ 2 ^ w
most_is w h =
    elim (cases_lt w 64) [
      | inl low ↦ let t : ltb w 64 ≡ true = grind (arith, nat_tests) in rw t (omega (arith, pow_pos w))
      | inr high ↦ let e : w ≡ 64 = omega arith in rw e refl
    ]

most_fits : (w : ℕ) → w ≤ 64 → most_of w < 2 ^ 64
most_fits w h = let top : 2 ^ w ≤ 2 ^ 64 = pow_mono h in omega (arith, most_is w h, top)

-- ---- keys

pub spaced_cut : (ns : List ℕ) → is_cut (spaced_numbers ns) ≡ true
spaced_cut [] = refl
spaced_cut (n ∷ ns) = refl

key_back : (w n : ℕ) (rest : List ℕ) → w ≤ 64 → n < 2 ^ w → key_number w (decimal n ++ (codes " " ++ rest)) ≡ Some (n, rest)
unfolding key_number
key_back w n rest h inside =
    rw (number_at_back (most_of w) n (codes " " ++ rest) (omega (arith, most_is w h)) (most_fits w h) refl, after_back (codes " ") rest) refl

keys_back : (before ws ks rest : List ℕ) → are_widths ws ≡ true → have_widths ws ks ≡ true → keys_at before ws (key_text ks ++ rest) ≡ Some (before ++ ks, rest)
keys_back before [] [] rest wide h = ap (λ l. Some (l, rest)) (sym (append-nil before))
keys_back before (w ∷ ws) (k ∷ ks) rest wide h =
    let wp = and_parts (is_width w) (are_widths ws) wide in
    let hp = and_parts (ltb k (2 ^ w)) (have_widths ws ks) h in
    let inside : k < 2 ^ w = grind (arith, nat_tests, hp.0) in
    rw (append_assoc (decimal k) (codes " " ++ key_text ks) rest) (rw (key_back w k (key_text ks ++ rest) (width_small w wp.0) inside)
    (keys_back (before ++ k ∷ []) ws ks rest wp.1 hp.1 ∙ ap (λ l. Some (l, rest)) (append_assoc before (k ∷ []) ks)))
keys_back _ _ _ rest wide h = cc

-- what was read behind others, and what is left of the line
pub record AreRead (Fit : List ℕ → Type 0) (text : List ℕ → List ℕ) (before line : List ℕ) (x : List ℕ × List ℕ) : Type 0 where
  pub read : List ℕ
  pub fit : Fit read
  pub all : x.0 ≡ before ++ read
  pub is : line ≡ text read ++ x.1

abbrev HaveWidths : List ℕ → List ℕ → Type 0
HaveWidths ws ns = have_widths ws ns ≡ true

record IsKey (w : ℕ) (line : List ℕ) (x : ℕ × List ℕ) : Type 0 where
  inside : ltb x.0 (2 ^ w) ≡ true
  is : line ≡ decimal x.0 ++ (codes " " ++ x.1)

key_is : (w : ℕ) (line : List ℕ) (x : ℕ × List ℕ) → w ≤ 64 → key_number w line ≡ Some x → IsKey w line x
unfolding key_number
key_is w line x wide h =
    bound (number_at (most_of w) line) _ x h (λ n en hn.
    bound (after (codes " ") n.1) _ x hn (λ r er hr.
    let l = number_at_is (most_of w) n.0 line n.1 (most_fits w wide) en in
    let inside : n.0 < 2 ^ w = omega (arith, l.small, most_is w wide) in
    subst (IsKey w line) (same_Some (n.0, r) x hr) (record {
      inside = grind (arith, nat_tests);
      is = l.is ∙ ap (λ t. decimal n.0 ++ t) (after_is (codes " ") n.1 r er);
    })))

keys_are : (before ws line : List ℕ) (x : List ℕ × List ℕ) → are_widths ws ≡ true → keys_at before ws line ≡ Some x → AreRead (HaveWidths ws) key_text before line x
keys_are before [] line x wide h =
    subst (AreRead (HaveWidths []) key_text before line) (same_Some (before, line) x h) (record { read = []; fit = refl; all = sym (append-nil before); is = refl })
keys_are before (w ∷ ws) line x wide h =
    let wp = and_parts (is_width w) (are_widths ws) wide in
    bound (key_number w line) (λ y. keys_at (before ++ y.0 ∷ []) ws y.1) x h (λ y ey hy.
    let one = key_is w line y (width_small w wp.0) ey in
    let more = keys_are (before ++ y.0 ∷ []) ws y.1 x wp.1 hy in
    record {
      read = y.0 ∷ more.read;
      fit = rw (one.inside, more.fit) refl;
      all = more.all ∙ append_assoc before (y.0 ∷ []) more.read;
      is = one.is ∙ ap (λ l. decimal y.0 ++ (codes " " ++ l)) more.is ∙ sym (append_assoc (decimal y.0) (codes " " ++ key_text more.read) x.1);
    })

-- ---- values

values_back : (before ws vs : List ℕ) → are_widths ws ≡ true → have_widths ws vs ≡ true → values_at before ws (spaced_numbers vs) ≡ Some (before ++ vs, [])
values_back before [] [] wide h = ap (λ l. Some (l, [])) (sym (append-nil before))
values_back before (w ∷ ws) (k ∷ ks) wide h =
    let wp = and_parts (is_width w) (are_widths ws) wide in
    let hp = and_parts (ltb k (2 ^ w)) (have_widths ws ks) h in
    let inside : k < 2 ^ w = grind (arith, nat_tests, hp.0) in
    let small = width_small w wp.0 in
    rw (labelled_back (most_of w) k (codes " ") (spaced_numbers ks) (omega (arith, most_is w small)) (most_fits w small) (spaced_cut ks))
    (values_back (before ++ k ∷ []) ws ks wp.1 hp.1 ∙ ap (λ l. Some (l, [])) (append_assoc before (k ∷ []) ks))
values_back _ _ _ wide h = cc

values_are : (before ws line : List ℕ) (x : List ℕ × List ℕ) → are_widths ws ≡ true → values_at before ws line ≡ Some x → AreRead (HaveWidths ws) spaced_numbers before line x
values_are before [] line x wide h =
    subst (AreRead (HaveWidths []) spaced_numbers before line) (same_Some (before, line) x h) (record { read = []; fit = refl; all = sym (append-nil before); is = refl })
values_are before (w ∷ ws) line x wide h =
    let wp = and_parts (is_width w) (are_widths ws) wide in
    let small = width_small w wp.0 in
    numbered (most_of w) (codes " ") line (λ y. values_at (before ++ y.0 ∷ []) ws y.1) x (most_fits w small) h (λ y low is hy.
    let more = values_are (before ++ y.0 ∷ []) ws y.1 x wp.1 hy in
    let inside : y.0 < 2 ^ w = omega (arith, low, most_is w small) in
    let tested : ltb y.0 (2 ^ w) ≡ true = grind (arith, nat_tests) in
    record {
      read = y.0 ∷ more.read;
      fit = rw (tested, more.fit) refl;
      all = more.all ∙ append_assoc before (y.0 ∷ []) more.read;
      is = is ∙ ap (λ l. codes " " ++ (decimal y.0 ++ l)) more.is ∙ ap (λ l. codes " " ++ l) (sym (append_assoc (decimal y.0) (spaced_numbers more.read) x.1));
    })

-- ---- rows

-- the line of a row, without its end
abbrev pub row_told : Row → List ℕ
row_told row = key_text row.keys ++ (codes "->" ++ spaced_numbers row.values)

pub row_back : (ks vs : List ℕ) (row : Row) → are_widths ks ≡ true → are_widths vs ≡ true → have_widths ks row.keys ≡ true → have_widths vs row.values ≡ true → row_of ks vs (row_told row) ≡ Some row
unfolding row_of
row_back ks vs row wk wv hk hv =
    rw (keys_back [] ks row.keys (codes "->" ++ spaced_numbers row.values) wk hk, after_back (codes "->") (spaced_numbers row.values), values_back [] vs row.values wv hv) refl

pub record HasRow (ks vs line : List ℕ) (row : Row) : Type 0 where
  pub keys : have_widths ks row.keys ≡ true
  pub values : have_widths vs row.values ≡ true
  pub is : line ≡ row_told row

pub row_is : (ks vs line : List ℕ) (row : Row) → are_widths ks ≡ true → are_widths vs ≡ true → row_of ks vs line ≡ Some row → HasRow ks vs line row
unfolding row_of
row_is ks vs line row wk wv h =
    bound (keys_at [] ks line) _ row h (λ k ek hk.
    bound (after (codes "->") k.1) _ row hk (λ r er hr.
    bound (values_at [] vs r) _ row hr (λ v ev hv.
    let w = whole_is _ row v.1 hv in
    let kl = keys_are [] ks line k wk ek in
    let vl = values_are [] vs r v wv ev in
    let keys : key_text kl.read ≡ key_text k.0 = ap key_text (sym kl.all) in
    let values : r ≡ spaced_numbers v.0 = vl.is ∙ ap (λ t. spaced_numbers vl.read ++ t) w.0 ∙ append-nil (spaced_numbers vl.read) ∙ ap spaced_numbers (sym vl.all) in
    let is : line ≡ key_text k.0 ++ (codes "->" ++ spaced_numbers v.0) =
    kl.is ∙ ap (λ t. t ++ k.1) keys ∙ ap (λ t. key_text k.0 ++ t) (after_is (codes "->") k.1 r er ∙ ap (λ t. codes "->" ++ t) values) in
    subst (HasRow ks vs line) w.1 (record {
      keys = subst (λ t. have_widths ks t ≡ true) (sym kl.all) kl.fit;
      values = subst (λ t. have_widths vs t ≡ true) (sym vl.all) vl.fit;
      is = is;
    }))))
