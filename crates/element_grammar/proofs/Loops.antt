-- What a loop has read of a list, and what is left of it.
use Rattle.std.proofs.Common.{◌≡◌, List, [], ◌∷◌, ◌++◌, map, refl, sym, ap, subst, ◌∙◌, append_assoc, append-nil}
use Rattle.std.proofs.lemmas.List.{map-append}
use Rattle.element_lang.specs.Token.{Token}
use Rattle.element_grammar.specs.declared.error.ParseError.{ParseError}
use Rattle.element_grammar.specs.Machine.{Awaited, left_at}
use Rattle.element_grammar.specs.Refused.{Misses}
use Rattle.element_grammar.proofs.Pieces.{onward}

-- The items that were read so far: what stands behind them reads on as the same list.
pub record Sofar {A : Type 0} (a : Awaited) (Are : List A → List Token → List Token → Type 0) (xs : List A) (ts left : List Token) : Type 0 where
  pub reads : (below : List Awaited) → left_at (a ∷ below) ts ≡ left_at (a ∷ below) left
  pub whole : (ys : List A) (rest : List Token) → Are ys left rest → Are (xs ++ ys) ts rest

pub sofar_none : {A : Type 0} {a : Awaited} {Are : List A → List Token → List Token → Type 0} {xs : List A} {ts : List Token} → xs ≡ [] → Sofar a Are xs ts ts
sofar_none {A = A} {Are = Are} {ts = ts} e = record {
  reads = λ below. refl;
  whole = λ ys rest p. let P : List A → Type 0 = λ l. Are (l ++ ys) ts rest in subst P (sym e) p;
}

-- one more item
pub sofar_more : {A : Type 0} {a : Awaited} {Are : List A → List Token → List Token → Type 0} {xs zs : List A} {x : A} {ts left next : List Token}
    → Sofar a Are xs ts left → Sofar a Are (x ∷ []) left next → zs ≡ xs ++ x ∷ [] → Sofar a Are zs ts next
sofar_more {A = A} {Are = Are} {xs = xs} {zs = zs} {x = x} {ts = ts} h k e = record {
  reads = λ below. h.reads below ∙ k.reads below;
  whole = λ ys rest p.
      let P : List A → Type 0 = λ l. Are l ts rest in
      subst P (sym (append_assoc xs (x ∷ []) ys) ∙ ap (λ l. l ++ ys) (sym e)) (h.whole (x ∷ ys) rest (k.whole ys rest p));
}

-- the same, where the items are seen through a map
pub sofar_pushed : {A B : Type 0} {a : Awaited} {Are : List A → List Token → List Token → Type 0}
    (f : B → A) (all new : List B) (next : B) {ts left rest : List Token}
    → Sofar a Are (map f all) ts left → Sofar a Are (f next ∷ []) left rest → new ≡ all ++ next ∷ [] → Sofar a Are (map f new) ts rest
sofar_pushed f all new next h k e = sofar_more h k (ap (map f) e ∙ map-append f all (next ∷ []))

-- the end of the list
pub sofar_end : {A : Type 0} {a : Awaited} {Are : List A → List Token → List Token → Type 0} {xs : List A} {ts left rest : List Token}
    → Sofar a Are xs ts left → Are [] left rest → Are xs ts rest
sofar_end {A = A} {Are = Are} {xs = xs} {ts = ts} {rest = rest} h p =
    let P : List A → Type 0 = λ l. Are l ts rest in
    subst P (append-nil xs) (h.whole [] rest p)

-- the last item, with the end of the list behind it
pub sofar_last : {A : Type 0} {a : Awaited} {Are : List A → List Token → List Token → Type 0} {xs zs : List A} {x : A} {ts left rest : List Token}
    → Sofar a Are xs ts left → Are (x ∷ []) left rest → zs ≡ xs ++ x ∷ [] → Are zs ts rest
sofar_last {A = A} {Are = Are} {x = x} {ts = ts} {rest = rest} h p e =
    let P : List A → Type 0 = λ l. Are l ts rest in
    subst P (sym e) (h.whole (x ∷ []) rest p)

pub sofar_pushed_last : {A B : Type 0} {a : Awaited} {Are : List A → List Token → List Token → Type 0}
    (f : B → A) (all new : List B) (next : B) {ts left rest : List Token}
    → Sofar a Are (map f all) ts left → Are (f next ∷ []) left rest → new ≡ all ++ next ∷ [] → Are (map f new) ts rest
sofar_pushed_last f all new next h p e = sofar_last h p (ap (map f) e ∙ map-append f all (next ∷ []))

-- what the rest of the list misses
pub sofar_misses : {A : Type 0} {a : Awaited} {Are : List A → List Token → List Token → Type 0} {xs : List A} {ts left : List Token} {e : ParseError}
    → Sofar a Are xs ts left → Misses (a ∷ []) left e → Misses (a ∷ []) ts e
sofar_misses h = onward h.reads
