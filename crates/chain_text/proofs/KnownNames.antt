-- Names of elements, and what stays where more elements follow.
use Rattle.std.proofs.Common.{◌≡◌, ℕ, suc, ◌<◌, ◌==◌, ◌&&◌, ◌||◌, Bool, true, false, cond, List, [], ◌∷◌, ◌++◌, length, refl, sym, ap, ap₂, ◌∙◌, ⊎_elim, arith}
use Rattle.std.specs.List.{list_any, list_all}
use Rattle.std.specs.Str.{bytes_eq}
use Rattle.std.proofs.lemmas.Bool.{false≢true, and_parts, and_from, or_cases, or_left, or_right}
use Rattle.std.proofs.lemmas.List.Folds.{list_any-append}
use Rattle.std.proofs.lemmas.Bool.Decides.{same_from_decides, Decides-like, Decides-eqb}
use Rattle.std.proofs.lemmas.Slice.Eq.{bytes_eq-Decides}
use Rattle.element_chain.specs.declared.chain.Element.{Element}
use Rattle.element_chain.specs.declared.chain.Target.{Target}
use Rattle.element_chain.specs.declared.chain.Target.TheVariants as target
use Rattle.element_chain.specs.declared.chain.Wire.{Wire}
use Rattle.chain_text.specs.Grammar.{Statement, declares, wires}
use Rattle.chain_text.specs.Reads.{elements_of, is_named, number_of, is_out, target_of, wires_of, wires_output}
use Rattle.chain_text.specs.Built.{is_wired, is_known}
use Rattle.lemmas.proofs.Lists.{bytes_eq_true}

pub named_more : (es more : List Element) (word : List ℕ) → is_named es word ≡ true → is_named (es ++ more) word ≡ true
named_more es more word h =
    list_any-append (λ (e : Element). bytes_eq e.name word) es more ∙ or_left (is_named es word) (is_named more word) h

pub number_more : (es more : List Element) (word : List ℕ) → is_named es word ≡ true → number_of (es ++ more) word ≡ number_of es word
number_more [] more word h = absurd (false≢true h)
number_more (e ∷ es) more word h = by_test (bytes_eq e.name word) h (λ there. number_more es more word there)
  where
    by_test : (b : Bool) → (b || is_named es word) ≡ true → (is_named es word ≡ true → number_of (es ++ more) word ≡ number_of es word)
        → cond b 0 (suc (number_of (es ++ more) word)) ≡ cond b 0 (suc (number_of es word))
    by_test true there rest = refl
    by_test false there rest = ap suc (rest there)

pub number_below : (es : List Element) (word : List ℕ) → is_named es word ≡ true → number_of es word < length es
number_below [] word h = absurd (false≢true h)
number_below (e ∷ es) word h = by_test (bytes_eq e.name word) h (λ there. number_below es word there)
  where
    by_test : (b : Bool) → (b || is_named es word) ≡ true → (is_named es word ≡ true → number_of es word < length es)
        → cond b 0 (suc (number_of es word)) < suc (length es)
    by_test true there rest = omega arith
    by_test false there rest = omega (arith, rest there)

target_more : (es more : List Element) (word : List ℕ) → (is_out word || is_named es word) ≡ true → target_of (es ++ more) word ≡ target_of es word
target_more es more word h = by_test (is_out word) h
  where
    by_test : (b : Bool) → (b || is_named es word) ≡ true
        → cond b target.Out (target.Element (number_of (es ++ more) word)) ≡ cond b target.Out (target.Element (number_of es word))
    by_test true there = refl
    by_test false there = ap target.Element (number_more es more word there)

-- ## statements whose names are known
known_one : (es more : List Element) (s : Statement) → is_known es s ≡ true → is_known (es ++ more) s ≡ true
known_one es more (declares element class) h = refl
known_one es more (wires from output input to) h =
    let two = and_parts (is_named es from) (is_out to || is_named es to) h in
    let there : (is_out to || is_named (es ++ more) to) ≡ true =
    ⊎_elim (λ out. or_left (is_out to) (is_named (es ++ more) to) out)
    (λ named. or_right (is_out to) (is_named (es ++ more) to) (named_more es more to named))
    (or_cases (is_out to) (is_named es to) two.1) in
    and_from (is_named (es ++ more) from) (is_out to || is_named (es ++ more) to) (named_more es more from two.0) there

pub known_more : (es more : List Element) (ss : List Statement) → list_all (is_known es) ss ≡ true → list_all (is_known (es ++ more)) ss ≡ true
known_more es more [] h = refl
known_more es more (s ∷ ss) h =
    let two = and_parts (is_known es s) (list_all (is_known es) ss) h in
    and_from (is_known (es ++ more) s) (list_all (is_known (es ++ more)) ss) (known_one es more s two.0) (known_more es more ss two.1)

pub wires_more : (es more : List Element) (ss : List Statement) → list_all (is_known es) ss ≡ true → wires_of (es ++ more) ss ≡ wires_of es ss
wires_more es more [] h = refl
wires_more es more (declares element class ∷ ss) h =
    wires_more es more ss (and_parts true (list_all (is_known es) ss) h).1
wires_more es more (wires from output input to ∷ ss) h =
    let two = and_parts (is_known es (wires from output input to)) (list_all (is_known es) ss) h in
    let known = and_parts (is_named es from) (is_out to || is_named es to) two.0 in
    let w : ℕ → Target → Wire = λ n t. record { from = n; output = output; input = input; to = t } in
    ap₂ (λ x l. x ∷ l) (ap₂ w (number_more es more from known.0) (target_more es more to known.1)) (wires_more es more ss two.1)

pub elements-append : (ss us : List Statement) → elements_of (ss ++ us) ≡ elements_of ss ++ elements_of us
elements-append [] us = refl
elements-append (declares element class ∷ ss) us = ap (λ l. record { name = element; class = class } ∷ l) (elements-append ss us)
elements-append (wires from output input to ∷ ss) us = elements-append ss us

pub wires-append : (es : List Element) (ss us : List Statement) → wires_of es (ss ++ us) ≡ wires_of es ss ++ wires_of es us
wires-append es [] us = refl
wires-append es (declares element class ∷ ss) us = wires-append es ss us
wires-append es (wires from output input to ∷ ss) us =
    ap (λ l. record { from = number_of es from; output = output; input = input; to = target_of es to } ∷ l) (wires-append es ss us)

one_name : (es : List Element) (a b : List ℕ) → is_named es a ≡ true → is_named es b ≡ true → number_of es a ≡ number_of es b → a ≡ b
one_name [] a b h k same = absurd (false≢true h)
one_name (e ∷ es) a b h k same =
    by_test (bytes_eq e.name a) (bytes_eq e.name b) refl refl h k same (λ h k same. one_name es a b h k same)
  where
    by_test : (x y : Bool) → bytes_eq e.name a ≡ x → bytes_eq e.name b ≡ y → (x || is_named es a) ≡ true → (y || is_named es b) ≡ true
        → cond x 0 (suc (number_of es a)) ≡ cond y 0 (suc (number_of es b))
        → (is_named es a ≡ true → is_named es b ≡ true → number_of es a ≡ number_of es b → a ≡ b) → a ≡ b
    by_test true true p q h k same rest = sym (bytes_eq_true e.name a p) ∙ bytes_eq_true e.name b q
    by_test true false p q h k same rest = absurd (omega arith)
    by_test false true p q h k same rest = absurd (omega arith)
    by_test false false p q h k same rest = rest h k (omega arith)

pub same_number : (es : List Element) (a b : List ℕ) → is_named es a ≡ true → is_named es b ≡ true → (number_of es a == number_of es b) ≡ bytes_eq a b
same_number es a b h k =
    same_from_decides (number_of es a == number_of es b) (bytes_eq a b)
    (Decides-like (number_of es a == number_of es b) (one_name es a b h k) (λ same. ap (number_of es) same) (Decides-eqb (number_of es a) (number_of es b)))
    (bytes_eq-Decides a b)

-- ## outputs that are wired
pub wired_same : (es : List Element) (ss : List Statement) (from : List ℕ) (output : ℕ) → list_all (is_known es) ss ≡ true → is_named es from ≡ true
    → is_wired (wires_of es ss) (number_of es from) output ≡ list_any (wires_output from output) ss
wired_same es [] from output known h = refl
wired_same es (declares element class ∷ ss) from output known h =
    wired_same es ss from output (and_parts true (list_all (is_known es) ss) known).1 h
wired_same es (wires word other input to ∷ ss) from output known h =
    let two = and_parts (is_known es (wires word other input to)) (list_all (is_known es) ss) known in
    let named = (and_parts (is_named es word) (is_out to || is_named es to) two.0).0 in
    ap₂ (λ x y. x && other == output || y) (same_number es word from named h) (wired_same es ss from output two.1 h)
