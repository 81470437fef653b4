-- Texts of tokens with a space behind each.
use Rattle.std.proofs.Common.{◌≡◌, ℕ, Bool, true, false, List, [], ◌∷◌, ◌++◌, refl, sym, ap, ◌∙◌, append_assoc, append-nil, arith}
use Rattle.element_lang.specs.declared.mark.Mark.{Mark}
use Rattle.element_lang.specs.declared.mark.Mark.TheVariants.{LeftParen, RightParen}
use Rattle.element_lang.specs.Token.{Token, fixed}
use Rattle.element_print.specs.Printed.{token_text, text_of, in_brackets_if}
use Rattle.element_print.specs.Spaced.{spaced, mark_if, separated}

pub spaced_none : spaced [] ≡ []
unfolding spaced
spaced_none = refl

pub spaced_append : (ts us : List Token) → spaced (ts ++ us) ≡ spaced ts ++ spaced us
unfolding spaced
spaced_append [] us = refl
spaced_append (t ∷ ts) us = ap (λ bs. token_text t ++ 32 ∷ bs) (spaced_append ts us) ∙ sym (append_assoc (token_text t) (32 ∷ spaced ts) (spaced us))

pub spaced_more : (t : Token) (ts : List Token) → spaced (t ∷ ts) ≡ spaced (t ∷ []) ++ spaced ts
spaced_more t ts = spaced_append (t ∷ []) ts

-- one more token
pub one : (old between new : List ℕ) (t : Token) → between ≡ old ++ token_text t → new ≡ between ++ 32 ∷ [] → new ≡ old ++ spaced (t ∷ [])
unfolding spaced
one old between new t e f = f ∙ ap (λ bs. bs ++ 32 ∷ []) e ∙ append_assoc old (token_text t) (32 ∷ [])

-- behind the last token stands an LF
pub spaced_end : (ts : List Token) (t : Token) → text_of (ts ++ t ∷ []) ≡ spaced ts ++ (token_text t ++ 10 ∷ [])
unfolding spaced
spaced_end [] t = refl
spaced_end (u ∷ []) t = sym (append_assoc (token_text u) (32 ∷ []) (token_text t ++ 10 ∷ []))
spaced_end (u ∷ v ∷ ts) t = ap (λ bs. token_text u ++ 32 ∷ bs) (spaced_end (v ∷ ts) t)
    ∙ sym (append_assoc (token_text u) (32 ∷ spaced (v ∷ ts)) (token_text t ++ 10 ∷ []))

pub ended : (old between new : List ℕ) (ts : List Token) (t : Token) → old ≡ spaced ts → between ≡ old ++ token_text t → new ≡ between ++ 10 ∷ []
    → new ≡ text_of (ts ++ t ∷ [])
ended old between new ts t e f g = g ∙ ap (λ bs. bs ++ 10 ∷ []) (f ∙ ap (λ bs. bs ++ token_text t) e)
    ∙ append_assoc (spaced ts) (token_text t) (10 ∷ []) ∙ sym (spaced_end ts t)

pub not_asked : (old : List ℕ) (m : Mark) (asked : Bool) → asked ≡ false → old ≡ old ++ spaced (mark_if asked m)
unfolding spaced
not_asked old m false e = sym (append-nil old)
not_asked old m true e = cc

pub bracketed : (b : Bool) (ts : List Token) (w x y z : List ℕ) → x ≡ w ++ spaced (mark_if b LeftParen) → y ≡ x ++ spaced ts
    → z ≡ y ++ spaced (mark_if b RightParen) → z ≡ w ++ spaced (in_brackets_if b ts)
unfolding spaced
bracketed true ts w x y z e f g = let m = spaced_append ts (fixed RightParen ∷ []) in grind (arith, append_assoc)
bracketed false ts w x y z e f g = grind (arith, append_assoc, append-nil)

pub listed_more : (b : Bool) (m : Mark) (p : List Token) (ps : List (List Token)) → separated b m (p ∷ ps) ≡ mark_if b m ++ (p ++ separated true m ps)
listed_more true m p ps = refl
listed_more false m p ps = refl

pub ruleset spaces = (append_assoc, append-nil, spaced_none, spaced_more, spaced_append)
