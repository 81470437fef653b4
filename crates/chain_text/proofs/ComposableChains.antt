-- Statements of which none is refused have wires within their elements, at most one at an output: their chain can be composed.
use Rattle.std.proofs.Common.{◌≡◌, ℕ, zero, suc, ◌+◌, ◌<◌, ◌≤◌, ◌==◌, ◌&&◌, ◌||◌, not, Bool, true, false, cond, List, [], ◌∷◌, ◌++◌, length, take, get_or, slice_get, Some, refl, sym, ap, subst, ◌∙◌, arith, length-append, append-nil}
use Rattle.std.specs.List.{list_any, list_all}
use Rattle.std.proofs.lemmas.Bool.{true≢false, eq-eqb, and_from, or_parts, false_from_ne_true as not_refused, not-false}
use Rattle.std.proofs.lemmas.List.{take_more, take_all}
use Rattle.std.proofs.lemmas.List.Elements.{All-push, All-weaker}
use Rattle.std.proofs.lemmas.List.Folds.{list_all-append}
use Rattle.std.proofs.lemmas.List.Quantifiers.{all_pairs_push}
use Rattle.std.proofs.lemmas.Option.{slice_get-get_or}
use Rattle.element_chain.specs.declared.chain.Chain.{Chain}
use Rattle.element_chain.specs.declared.chain.Element.{Element}
use Rattle.element_chain.specs.declared.chain.Target.{Target}
use Rattle.element_chain.specs.declared.chain.Target.TheVariants as target
use Rattle.element_chain.specs.declared.chain.Wire.{Wire}
use Rattle.element_chain.specs.Wiring.{AreWithin, IsWithin}
use Rattle.chain_text.specs.Grammar.{Statement, declares, wires}
use Rattle.chain_text.specs.Reads.{elements_of, is_named, number_of, is_out, target_of, wires_of, wires_output, is_refused, IsRefusedAt, AreWiredOnce, IsChainText, IsComposable}
use Rattle.chain_text.specs.Built.{is_wired, is_known}
use Rattle.chain_text.proofs.KnownNames.{number_below, known_more, wires_more, elements-append, wires-append, wired_same}

-- ## within, and once
target_on : (m n : ℕ) (t : Target) → m ≤ n → IsWithin m t → IsWithin n t
target_on m n target.Out le h = tt
target_on m n (target.Element e) le h = omega arith

within_more : (m n : ℕ) (ws : List Wire) → m ≤ n → AreWithin m ws → AreWithin n ws
within_more m n ws le h =
    All-weaker (λ (w : Wire). (w.from < m) × IsWithin m w.to) (λ (w : Wire). (w.from < n) × IsWithin n w.to)
    (λ w two. (omega (arith, two.0), target_on m n w.to le two.1)) ws h

target_within : (es : List Element) (word : List ℕ) → (is_out word || is_named es word) ≡ true → IsWithin (length es) (target_of es word)
target_within es word h = by_test (is_out word) h
  where
    by_test : (b : Bool) → (b || is_named es word) ≡ true → IsWithin (length es) (cond b target.Out (target.Element (number_of es word)))
    by_test true there = tt
    by_test false there = number_below es word there

none_at : {X : Type 0} → (p : X → Bool) (xs : List X) (k : ℕ) (d : X) → list_any p xs ≡ false → k < length xs → p (get_or xs k d) ≡ false
none_at p [] k d h lt = absurd (omega arith)
none_at p (x ∷ xs) zero d h lt = (or_parts (p x) (list_any p xs) h).0
none_at p (x ∷ xs) (suc k) d h lt = none_at p xs k d (or_parts (p x) (list_any p xs) h).1 (omega arith)

apart : (ws : List Wire) (w : Wire) → is_wired ws w.from w.output ≡ false → AreWiredOnce ws → AreWiredOnce (ws ++ w ∷ [])
apart ws w free once =
    all_pairs_push (λ (v w : Wire). v.from ≡ w.from → v.output ≡ w.output → ⊥) ws w once
    (λ k d lt same same'.
    let here : ((get_or ws k d).from == w.from && (get_or ws k d).output == w.output) ≡ false =
    none_at (λ (v : Wire). v.from == w.from && v.output == w.output) ws k d free lt in
    true≢false (sym (and_from ((get_or ws k d).from == w.from) ((get_or ws k d).output == w.output)
    (eq-eqb (get_or ws k d).from w.from same) (eq-eqb (get_or ws k d).output w.output same')) ∙ here))

-- what statements keep of which none is refused
pub record AreJoined (ss : List Statement) : Type 0 where
  pub known : list_all (is_known (elements_of ss)) ss ≡ true
  pub within : AreWithin (length (elements_of ss)) (wires_of (elements_of ss) ss)
  pub once : AreWiredOnce (wires_of (elements_of ss) ss)

none_joined : AreJoined []
none_joined = record { known = refl; within = λ k d lt. absurd (omega (arith, lt)); once = λ i j d lt le. absurd (omega (arith, lt, le)) }

one_declared : (ss : List Statement) (name class : List ℕ) → AreJoined ss → AreJoined (ss ++ declares name class ∷ [])
one_declared ss name class h =
    let s : Statement = declares name class in
    let e : Element = record { name = name; class = class } in
    let es : List Element = elements_of ss in
    let all : es ++ e ∷ [] ≡ elements_of (ss ++ s ∷ []) = sym (elements-append ss (s ∷ [])) in
    let known : list_all (is_known (es ++ e ∷ [])) (ss ++ s ∷ []) ≡ true =
    list_all-append (is_known (es ++ e ∷ [])) ss (s ∷ [])
    ∙ and_from (list_all (is_known (es ++ e ∷ [])) ss) true (known_more es (e ∷ []) ss h.known) refl in
    let stay : wires_of es ss ≡ wires_of (es ++ e ∷ []) (ss ++ s ∷ []) =
    sym (wires-append (es ++ e ∷ []) ss (s ∷ []) ∙ append-nil (wires_of (es ++ e ∷ []) ss) ∙ wires_more es (e ∷ []) ss h.known) in
    let longer : length es ≤ length (es ++ e ∷ []) = omega (arith, length-append es (e ∷ [])) in
    let P : List Element → List Wire → Type 0 = λ l ws. AreWithin (length l) ws in
    let inside = subst (λ ws. P (es ++ e ∷ []) ws) stay (within_more (length es) (length (es ++ e ∷ [])) (wires_of es ss) longer h.within) in
    record {
      known = subst (λ (l : List Element). list_all (is_known l) (ss ++ s ∷ []) ≡ true) all known;
      within = subst (λ (l : List Element). P l (wires_of l (ss ++ s ∷ []))) all inside;
      once = subst (λ (l : List Element). AreWiredOnce (wires_of l (ss ++ s ∷ []))) all (subst AreWiredOnce stay h.once);
    }

one_wired : (ss : List Statement) (from to : List ℕ) (output input : ℕ) → AreJoined ss → is_refused ss (wires from output input to) ≡ false
    → AreJoined (ss ++ wires from output input to ∷ [])
one_wired ss from to output input h free =
    let s : Statement = wires from output input to in
    let es : List Element = elements_of ss in
    let w : Wire = record { from = number_of es from; output = output; input = input; to = target_of es to } in
    let all : es ≡ elements_of (ss ++ s ∷ []) = sym (elements-append ss (s ∷ []) ∙ append-nil es) in
    let three = or_parts (not (is_named es from) || not (is_out to || is_named es to)) (list_any (wires_output from output) ss) free in
    let two = or_parts (not (is_named es from)) (not (is_out to || is_named es to)) three.0 in
    let named : is_named es from ≡ true = not-false (is_named es from) two.0 in
    let there : (is_out to || is_named es to) ≡ true = not-false (is_out to || is_named es to) two.1 in
    let one_known : is_known es s ≡ true = and_from (is_named es from) (is_out to || is_named es to) named there in
    let known : list_all (is_known es) (ss ++ s ∷ []) ≡ true =
    list_all-append (is_known es) ss (s ∷ [])
    ∙ and_from (list_all (is_known es) ss) (is_known es s && true) h.known (and_from (is_known es s) true one_known refl) in
    let unwired : is_wired (wires_of es ss) w.from output ≡ false = wired_same es ss from output h.known named ∙ three.1 in
    let more : wires_of es ss ++ w ∷ [] ≡ wires_of es (ss ++ s ∷ []) = sym (wires-append es ss (s ∷ [])) in
    let inside : AreWithin (length es) (wires_of es ss ++ w ∷ []) =
    All-push (λ (w : Wire). (w.from < length es) × IsWithin (length es) w.to) (wires_of es ss) w h.within
    (number_below es from named, target_within es to there) in
    record {
      known = subst (λ (l : List Element). list_all (is_known l) (ss ++ s ∷ []) ≡ true) all known;
      within = subst (λ (l : List Element). AreWithin (length l) (wires_of l (ss ++ s ∷ []))) all (subst (AreWithin (length es)) more inside);
      once = subst (λ (l : List Element). AreWiredOnce (wires_of l (ss ++ s ∷ []))) all
          (subst AreWiredOnce more (apart (wires_of es ss) w unwired h.once));
    }

one_joined : (ss : List Statement) (s : Statement) → AreJoined ss → is_refused ss s ≡ false → AreJoined (ss ++ s ∷ [])
one_joined ss (declares name class) h free = one_declared ss name class h
one_joined ss (wires from output input to) h free = one_wired ss from to output input h free

-- the statements before each place
joined_so_far : (ss : List Statement) → ((place : ℕ) → IsRefusedAt ss place → ⊥) → (i : ℕ) → i ≤ length ss → AreJoined (take i ss)
joined_so_far ss none zero le = none_joined
joined_so_far ss none (suc i) le =
    let d : Statement = declares [] [] in
    let s : Statement = get_or ss i d in
    let there : slice_get ss i ≡ Some s = slice_get-get_or ss i d (omega (arith, le)) in
    let free : is_refused (take i ss) s ≡ false =
    not_refused (is_refused (take i ss) s) (λ refused. none i (record { statement = s; there = there; refused = refused })) in
    let same : i + 1 ≡ suc i = omega arith in
    let one_more : take i ss ++ s ∷ [] ≡ take (suc i) ss =
    sym (take_more ss i d (omega (arith, le))) ∙ ap (λ k. take k ss) same in
    subst AreJoined one_more (one_joined (take i ss) s (joined_so_far ss none i (omega (arith, le))) free)

pub all_joined : (ss : List Statement) → ((place : ℕ) → IsRefusedAt ss place → ⊥) → AreJoined ss
all_joined ss none = subst AreJoined (take_all (length ss) ss (omega arith)) (joined_so_far ss none (length ss) (omega arith))

pub can_be_composed : (text : List ℕ) (chain : Chain) → IsChainText text chain → IsComposable chain
can_be_composed text chain h =
    let ss = h.statements in
    let es : List Element = elements_of ss in
    let joined = all_joined ss h.taken.none in
    record {
      some = omega (arith, h.some, ap length h.elements);
      few = omega (arith, h.taken.few, ap length h.elements);
      within = subst (λ (l : List Element). AreWithin (length l) chain.wires) (sym h.elements)
          (subst (AreWithin (length es)) (sym h.wires) joined.within);
      once = subst AreWiredOnce (sym h.wires) joined.once;
      acyclic = h.acyclic;
    }
