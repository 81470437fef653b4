-- One statement more, which is taken or refused.
use Rattle.std.proofs.Common.{◌≡◌, ◌⊎◌, inl, inr, ℕ, zero, suc, ◌<◌, ◌==◌, ◌&&◌, ◌||◌, not, Bool, true, false, List, [], ◌∷◌, ◌++◌, length, take, slice_get, Some, Result, Ok, Err, IfOk, MatchBool, refl, sym, ap, ap₂, subst, ◌∙◌, ⊎_elim, arith, length-append, append-nil}
use Rattle.std.specs.Bool.{OnTrue}
use Rattle.std.specs.List.{list_any}
use Rattle.std.proofs.lemmas.Bool.{true≢false, false≢true, cases_order, or_from, or_left, or_right, not-true, not-false, not_from_true, not_from_false}
use Rattle.std.proofs.lemmas.List.{take-append-le, take_at}
use Rattle.std.proofs.lemmas.List.Folds.{list_any-append}
use Rattle.std.proofs.lemmas.Option.{slice_get_within, same_Some}
use Rattle.gal_io.specs.declared.memory.NoMemory.{NoMemory}
use Rattle.element_chain.specs.declared.chain.Element.{Element}
use Rattle.element_chain.specs.declared.chain.Wire.{Wire}
use Rattle.element_chain.specs.Wiring.{AreWithin}
use Rattle.chain_text.specs.Grammar.{Statement, declares, wires}
use Rattle.chain_text.specs.Reads.{elements_of, is_named, number_of, is_out, target_of, wires_of, wires_output, is_refused, IsRefusedAt, AreWiredOnce}
use Rattle.chain_text.specs.declared.builder.Builder.{Builder}
use Rattle.chain_text.specs.Built.{IsBuilt, is_output, is_wired}
use Rattle.chain_text.proofs.KnownNames.{wires_more, elements-append, wires-append, wired_same}
use Rattle.chain_text.proofs.ComposableChains.{all_joined}
use Rattle.lemmas.proofs.Lists.{get_front}
use Rattle.lemmas.proofs.Tests.{or_false, or_true}

get_last : {A : Type 0} → (xs : List A) (y : A) (k : ℕ) → k ≡ length xs → slice_get (xs ++ y ∷ []) k ≡ Some y
get_last [] y zero e = refl
get_last [] y (suc k) e = absurd (omega arith)
get_last (x ∷ xs) y zero e = absurd (omega arith)
get_last (x ∷ xs) y (suc k) e = get_last xs y k (omega arith)

none_more : (before : List Statement) (s : Statement) → ((place : ℕ) → IsRefusedAt before place → ⊥) → is_refused before s ≡ false
    → (place : ℕ) → IsRefusedAt (before ++ s ∷ []) place → ⊥
none_more before s none free place h = by_place (cases_order place (length before))
  where
    by_place : (place ≡ length before) ⊎ ((place < length before) ⊎ (length before < place)) → ⊥
    by_place (inl e) =
        let same : h.statement ≡ s = same_Some h.statement s (sym h.there ∙ get_last before s place e) in
        let front : take place (before ++ s ∷ []) ≡ before = take_at before (s ∷ []) place (sym e) in
        true≢false (sym h.refused ∙ ap₂ is_refused front same ∙ free)
    by_place (inr (inl lt)) =
        none place (record {
          statement = h.statement;
          there = sym (get_front before (s ∷ []) place lt) ∙ h.there;
          refused = ap (λ l. is_refused l h.statement) (sym (take-append-le place before (s ∷ []) (omega arith))) ∙ h.refused;
        })
    by_place (inr (inr gt)) =
        let lt = slice_get_within (before ++ s ∷ []) place h.statement h.there in
        omega (arith, lt, length-append before (s ∷ []))

-- ## one element more
-- what is said of a declaration's outcome
abbrev pub Taken : List Statement → Statement → Builder → Bool → Type 0
Taken before s new taken = MatchBool taken (IsBuilt (before ++ s ∷ []) new) (is_refused before s ≡ true)

built_of : (ss : List Statement) (b : Builder) → ((place : ℕ) → IsRefusedAt ss place → ⊥) → b.elements ≡ elements_of ss → b.wires ≡ wires_of (elements_of ss) ss
    → ((e o : ℕ) → is_output b.outputs e o ≡ is_wired b.wires e o) → IsBuilt ss b
built_of ss b none es_are ws_are outputs_are =
    let joined = all_joined ss none in
    record {
      none = none;
      elements = es_are;
      wires = ws_are;
      outputs = outputs_are;
      known = joined.known;
      within = subst (λ (l : List Element). AreWithin (length l) b.wires) (sym es_are) (subst (AreWithin (length (elements_of ss))) (sym ws_are) joined.within);
      once = subst AreWiredOnce (sym ws_are) joined.once;
    }

declared : (before : List Statement) (old new : Builder) (name class : List ℕ) → IsBuilt before old → (is_out name || is_named old.elements name) ≡ false
    → new.elements ≡ old.elements ++ record { name = name; class = class } ∷ [] → new.wires ≡ old.wires → new.outputs ≡ old.outputs
    → IsBuilt (before ++ declares name class ∷ []) new
declared before old new name class h free es_are ws_are outputs_are =
    let s : Statement = declares name class in
    let e : Element = record { name = name; class = class } in
    let es : List Element = elements_of before in
    let all : elements_of (before ++ s ∷ []) ≡ es ++ e ∷ [] = elements-append before (s ∷ []) in
    let old_same : is_refused before s ≡ false = ap (λ l. is_out name || is_named l name) (sym h.elements) ∙ free in
    let stay : wires_of (es ++ e ∷ []) (before ++ s ∷ []) ≡ wires_of es before =
    wires-append (es ++ e ∷ []) before (s ∷ []) ∙ append-nil (wires_of (es ++ e ∷ []) before) ∙ wires_more es (e ∷ []) before h.known in
    built_of (before ++ s ∷ []) new (none_more before s h.none old_same) (es_are ∙ ap (λ l. l ++ e ∷ []) h.elements ∙ sym all)
    (ws_are ∙ h.wires ∙ sym stay ∙ ap (λ l. wires_of l (before ++ s ∷ [])) (sym all))
    (λ x o. ap (λ l. is_output l x o) outputs_are ∙ h.outputs x o ∙ ap (λ l. is_wired l x o) (sym ws_are))

pub taken_declaration : (before : List Statement) (old new : Builder) (name class : List ℕ) (r : Result Bool NoMemory) → IsBuilt before old
    → IfOk r (λ taken. taken ≡ not (is_out name || is_named old.elements name))
    → IfOk r (λ taken. OnTrue taken (new.elements ≡ old.elements ++ record { name = name; class = class } ∷ []))
    → new.wires ≡ old.wires → new.outputs ≡ old.outputs → IfOk r (Taken before (declares name class) new)
taken_declaration before old new name class (Err e) h told es_are ws_are outputs_are = tt
taken_declaration before old new name class (Ok true) h told es_are ws_are outputs_are =
    declared before old new name class h (not-true (is_out name || is_named old.elements name) (sym told)) es_are ws_are outputs_are
taken_declaration before old new name class (Ok false) h told es_are ws_are outputs_are =
    ap (λ l. is_out name || is_named l name) (sym h.elements) ∙ not-false (is_out name || is_named old.elements name) (sym told)

-- ## one wire more
or_turned : (x y : Bool) → (x || y) ≡ (y || (x || false))
or_turned true y = sym (or_true y)
or_turned false y = sym (or_false y)

wired : (before : List Statement) (old new : Builder) (from to : List ℕ) (output input : ℕ) → IsBuilt before old
    → is_named old.elements from ≡ true → (is_out to || is_named old.elements to) ≡ true → is_output old.outputs (number_of old.elements from) output ≡ false
    → new.elements ≡ old.elements
    → new.wires ≡ old.wires ++ record { from = number_of old.elements from; output = output; input = input; to = target_of old.elements to } ∷ []
    → ((e o : ℕ) → is_output new.outputs e o ≡ (number_of old.elements from == e && output == o || is_output old.outputs e o))
    → IsBuilt (before ++ wires from output input to ∷ []) new
wired before old new from to output input h named there free es_are ws_are outputs_are =
    let s : Statement = wires from output input to in
    let es : List Element = elements_of before in
    let w : Wire = record { from = number_of old.elements from; output = output; input = input; to = target_of old.elements to } in
    let W : List Element → Wire = λ l. record { from = number_of l from; output = output; input = input; to = target_of l to } in
    let all : elements_of (before ++ s ∷ []) ≡ es = elements-append before (s ∷ []) ∙ append-nil es in
    let known_from : is_named es from ≡ true = ap (λ l. is_named l from) (sym h.elements) ∙ named in
    let known_to : (is_out to || is_named es to) ≡ true = ap (λ l. is_out to || is_named l to) (sym h.elements) ∙ there in
    let unwired : is_wired old.wires w.from output ≡ false = sym (h.outputs w.from output) ∙ free in
    let first : list_any (wires_output from output) before ≡ false =
    sym (wired_same es before from output h.known known_from) ∙ ap₂ (λ l n. is_wired l n output) (sym h.wires) (ap (λ l. number_of l from) (sym h.elements)) ∙ unwired in
    let taken : is_refused before s ≡ false =
    or_from (not (is_named es from) || not (is_out to || is_named es to)) (list_any (wires_output from output) before)
    (or_from (not (is_named es from)) (not (is_out to || is_named es to)) (not_from_true (is_named es from) known_from)
    (not_from_true (is_out to || is_named es to) known_to)) first in
    built_of (before ++ s ∷ []) new (none_more before s h.none taken) (es_are ∙ h.elements ∙ sym all)
    (ws_are ∙ ap₂ (λ l k. l ++ W k ∷ []) h.wires h.elements ∙ sym (wires-append es before (s ∷ [])) ∙ ap (λ l. wires_of l (before ++ s ∷ [])) (sym all))
    (λ e o. outputs_are e o ∙ ap (λ b. w.from == e && w.output == o || b) (h.outputs e o) ∙ or_turned (w.from == e && w.output == o) (is_wired old.wires e o)
    ∙ sym (list_any-append (λ (w : Wire). w.from == e && w.output == o) old.wires (w ∷ [])) ∙ ap (λ l. is_wired l e o) (sym ws_are))

-- the three tests of a wire
tests_false : (a b c : Bool) → false ≡ (a && b && not c) → (a ≡ false) ⊎ ((a ≡ true) × ((b ≡ false) ⊎ (c ≡ true)))
tests_false true true true h = inr (refl, inr refl)
tests_false true true false h = absurd (false≢true h)
tests_false true false c h = inr (refl, inl refl)
tests_false false b c h = inl refl

tests_true : (a b c : Bool) → true ≡ (a && b && not c) → (a ≡ true) × (b ≡ true) × (c ≡ false)
tests_true true true true h = absurd (true≢false h)
tests_true true true false h = (refl, refl, refl)
tests_true true false c h = absurd (true≢false h)
tests_true false b c h = absurd (true≢false h)

pub taken_wire : (before : List Statement) (old new : Builder) (from to : List ℕ) (output input : ℕ) (r : Result Bool NoMemory) → IsBuilt before old
    → IfOk r (λ taken. taken ≡ (is_named old.elements from && (is_out to || is_named old.elements to)
    && not (is_output old.outputs (number_of old.elements from) output)))
    → new.elements ≡ old.elements
    → IfOk r (λ taken. OnTrue taken
    (new.wires ≡ old.wires ++ record { from = number_of old.elements from; output = output; input = input; to = target_of old.elements to } ∷ []))
    → IfOk r (λ taken. OnTrue taken ((e o : ℕ) → is_output new.outputs e o ≡ (number_of old.elements from == e && output == o || is_output old.outputs e o)))
    → IfOk r (Taken before (wires from output input to) new)
taken_wire before old new from to output input (Err e) h told es_are ws_are outputs_are = tt
taken_wire before old new from to output input (Ok true) h told es_are ws_are outputs_are =
    let three = tests_true (is_named old.elements from) (is_out to || is_named old.elements to) (is_output old.outputs (number_of old.elements from) output) told in
    wired before old new from to output input h three.0 three.1 three.2 es_are ws_are outputs_are
taken_wire before old new from to output input (Ok false) h told es_are ws_are outputs_are =
    let es : List Element = elements_of before in
    let a : Bool = not (is_named es from) in
    let b : Bool = not (is_out to || is_named es to) in
    let c : Bool = list_any (wires_output from output) before in
    ⊎_elim
    (λ none. or_left (a || b) c (or_left a b (not_from_false (is_named es from) (ap (λ l. is_named l from) (sym h.elements) ∙ none))))
    (λ some. ⊎_elim
    (λ none. or_left (a || b) c (or_right a b (not_from_false (is_out to || is_named es to) (ap (λ l. is_out to || is_named l to) (sym h.elements) ∙ none))))
    (λ again. or_right (a || b) c
    (sym (wired_same es before from output h.known (ap (λ l. is_named l from) (sym h.elements) ∙ some.0))
    ∙ ap₂ (λ l n. is_wired l n output) (sym h.wires) (ap (λ l. number_of l from) (sym h.elements))
    ∙ sym (h.outputs (number_of old.elements from) output) ∙ again))
    some.1)
    (tests_false (is_named old.elements from) (is_out to || is_named old.elements to) (is_output old.outputs (number_of old.elements from) output) told)
