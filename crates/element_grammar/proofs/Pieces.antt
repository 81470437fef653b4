-- What a part misses follows from what one of its pieces misses.
use Rattle.std.proofs.Common.{◌≡◌, ℕ, suc, Bool, true, false, List, [], ◌∷◌, ◌++◌, length, Some, refl, sym, ap, subst, ◌∙◌, eq-eqb, if◌then◌else◌}
use Rattle.element_lang.specs.declared.mark.Mark.{Mark}
use Rattle.element_lang.specs.declared.mark.Mark.TheVariants as marks
use Rattle.element_lang.specs.Token.{Token, fixed, number, name}
use Rattle.element_lang.specs.Surface.{SurfaceExpr, SurfaceExprs, SurfaceBody, Literal}
use Rattle.element_lang.specs.Grammar.{IsBody, AreKeys, AreNames, AreWidths, AreLiterals}
use Rattle.element_grammar.specs.declared.error.ParseError.{ParseError}
use Rattle.element_grammar.specs.declared.error.ParseError.TheVariants.{Left, NoMemory}
use Rattle.element_grammar.specs.Machine.{Awaited, mark, some_number, some_name, expr, keys, names, body, widths, literals, push, refuse, starts_on, is_mark}
use Rattle.element_grammar.specs.Machine.{code, move_at, may_skip, after, step, end, when_it_fits, left_at}
use Rattle.element_grammar.specs.Refused.{Misses, NoMark, AtEnd, FoundExpr, FoundBetween, FoundEntry}
use Rattle.element_grammar.proofs.Marks.{mark_passed}
use Rattle.element_grammar.proofs.Runs.{reads_keys, reads_names, reads_body, reads_widths, reads_literals}

-- a part under other names
pub moved : {A : Type 0} (Is : A → List Token → List Token → Type 0) {a b : A} {ts us rest last : List Token} → a ≡ b → ts ≡ us → rest ≡ last → Is b us last
    → Is a ts rest
moved {A = A} Is {a = a} {ts = ts} {us = us} {last = last} tree begins ends p =
    let P : A → Type 0 = λ x. Is x us last in
    let Q : List Token → Type 0 = λ l. Is a l last in
    let R : List Token → Type 0 = λ l. Is a ts l in
    subst R (sym ends) (subst Q (sym begins) (subst P (sym tree) p))

-- nothing is missed where memory is short
pub memory : {parts : List Awaited} {ts : List Token} {e : ParseError} → e ≡ NoMemory → Misses parts ts e
memory is = record { tells = λ left below e. cc }

-- ## From one list of what is awaited to another

pub onward : {parts others : List Awaited} {ts us : List Token} {e : ParseError}
    → ((below : List Awaited) → left_at (parts ++ below) ts ≡ left_at (others ++ below) us)
    → Misses others us e → Misses parts ts e
onward way m = record { tells = λ left below e. way below ∙ m.tells left below e }

pub behind : {parts : List Awaited} {ts us : List Token} {e : ParseError} → ts ≡ us → Misses parts us e → Misses parts ts e
behind {parts = parts} same = onward (λ below. ap (left_at (parts ++ below)) same)

-- the first pieces
pub first : {a : Awaited} {more : List Awaited} {ts : List Token} {e : ParseError} → Misses (a ∷ []) ts e → Misses (a ∷ more) ts e
first {more = more} m = record { tells = λ left below e. m.tells left (more ++ below) e }

pub first_two : {a b : Awaited} {more : List Awaited} {ts : List Token} {e : ParseError} → Misses (a ∷ b ∷ []) ts e → Misses (a ∷ b ∷ more) ts e
first_two {more = more} m = record { tells = λ left below e. m.tells left (more ++ below) e }

pub first_three : {a b c : Awaited} {more : List Awaited} {ts : List Token} {e : ParseError} → Misses (a ∷ b ∷ c ∷ []) ts e → Misses (a ∷ b ∷ c ∷ more) ts e
first_three {more = more} m = record { tells = λ left below e. m.tells left (more ++ below) e }

-- ## Past a piece that stands in front

pub past : {a : Awaited} {more : List Awaited} {ts us : List Token} {e : ParseError} → ((below : List Awaited) → left_at (a ∷ below) ts ≡ left_at below us)
    → Misses more us e → Misses (a ∷ more) ts e
past {more = more} way = onward (λ below. way (more ++ below))

pub mark_way : (m : Mark) (ts : List Token) (below : List Awaited) → left_at (mark m ∷ below) (fixed m ∷ ts) ≡ left_at below ts
mark_way m ts below =
    ap (λ b. when_it_fits (after (starts_on b []) below (step below (fixed m))) (λ stack. left_at stack ts) (suc (length ts))) (eq-eqb (code m) (code m) refl)

pub past_mark : {m : Mark} {more : List Awaited} {ts us : List Token} {e : ParseError} → ts ≡ fixed m ∷ us → Misses more us e → Misses (mark m ∷ more) ts e
past_mark {m = m} {us = us} is = past (λ below. ap (left_at (mark m ∷ below)) is ∙ mark_way m us below)

pub past_marks : {m k : Mark} {more : List Awaited} {ts us : List Token} {e : ParseError} → ts ≡ fixed m ∷ fixed k ∷ us → Misses more us e
    → Misses (mark m ∷ mark k ∷ more) ts e
past_marks is miss = past_mark is (past_mark refl miss)

pub ruleset two_marks = (first, past_mark)

pub past_number : {n : ℕ} {more : List Awaited} {ts us : List Token} {e : ParseError} → ts ≡ number n ∷ us → Misses more us e → Misses (some_number ∷ more) ts e
past_number is = past (λ below. ap (left_at (some_number ∷ below)) is)

pub past_number_then : {n : ℕ} {m : Mark} {more : List Awaited} {ts us : List Token} {e : ParseError} → ts ≡ number n ∷ fixed m ∷ us → Misses more us e
    → Misses (some_number ∷ mark m ∷ more) ts e
past_number_then is miss = past_number is (past_mark refl miss)

pub past_name : {word : List ℕ} {more : List Awaited} {ts us : List Token} {e : ParseError} → ts ≡ name word ∷ us → Misses more us e
    → Misses (some_name ∷ more) ts e
past_name is = past (λ below. ap (left_at (some_name ∷ below)) is)

pub past_name_then : {word : List ℕ} {m : Mark} {more : List Awaited} {ts us : List Token} {e : ParseError} → ts ≡ name word ∷ fixed m ∷ us → Misses more us e
    → Misses (some_name ∷ mark m ∷ more) ts e
past_name_then is miss = past_name is (past_mark refl miss)

pub past_expr : {x : SurfaceExpr} {more : List Awaited} {ts us : List Token} {e : ParseError} → FoundExpr x ts us → Misses more us e → Misses (expr ∷ more) ts e
past_expr p = past p.reads.way

pub past_expr_then : {x : SurfaceExpr} {m : Mark} {more : List Awaited} {ts us : List Token} {e : ParseError} → FoundExpr x ts (fixed m ∷ us) → Misses more us e
    → Misses (expr ∷ mark m ∷ more) ts e
past_expr_then p miss = past_expr p (past_mark refl miss)

pub past_between : {x : SurfaceExpr} {m k : Mark} {more : List Awaited} {ts us : List Token} {e : ParseError} → FoundBetween m k x ts us → Misses more us e
    → Misses (mark m ∷ expr ∷ mark k ∷ more) ts e
past_between p miss = past_mark p.begins (past_expr_then p.found miss)

pub past_keys : {es : SurfaceExprs} {more : List Awaited} {ts us : List Token} {e : ParseError} → AreKeys es ts us → Misses more us e
    → Misses (keys ∷ more) ts e
past_keys p = past (reads_keys p)

pub past_entry : {object : List ℕ} {es : SurfaceExprs} {more : List Awaited} {ts us : List Token} {e : ParseError} → FoundEntry object es ts us
    → Misses more us e
    → Misses (some_name ∷ mark marks.LeftBracket ∷ keys ∷ more) ts e
past_entry p miss = past_name_then p.begins (past_keys p.keys_found miss)

pub past_names : {words : List (List ℕ)} {more : List Awaited} {ts us : List Token} {e : ParseError} → AreNames words ts us → Misses more us e
    → Misses (names ∷ more) ts e
past_names p = past (reads_names p)

pub past_body : {b : SurfaceBody} {more : List Awaited} {ts us : List Token} {e : ParseError} → IsBody b ts us → Misses more us e → Misses (body ∷ more) ts e
past_body p = past (reads_body p)

pub past_widths : {ws : List ℕ} {more : List Awaited} {ts us : List Token} {e : ParseError} → AreWidths ws ts us → Misses more us e
    → Misses (widths ∷ more) ts e
past_widths p = past (reads_widths p)

pub past_literals : {ls : List Literal} {more : List Awaited} {ts us : List Token} {e : ParseError} → AreLiterals ls ts us → Misses more us e
    → Misses (literals ∷ more) ts e
past_literals p = past (reads_literals p)

-- ## The first token of a part

-- a part begins with this token, and misses what is awaited behind it
pub begun : {a : Awaited} {t : Token} {parts : List Awaited} {ts : List Token} {e : ParseError} → move_at a t ≡ push parts → Misses parts ts e
    → Misses (a ∷ []) (t ∷ ts) e
begun {t = t} {ts = ts} is = onward (λ below. ap (λ m. when_it_fits (after m below (step below t)) (λ stack. left_at stack ts) (suc (length ts))) is)

-- no part begins with this token
pub not_begun : {a : Awaited} {t : Token} {ts us : List Token} {e : ParseError} → ts ≡ t ∷ us → move_at a t ≡ refuse → e ≡ Left (length ts)
    → Misses (a ∷ []) ts e
not_begun {a = a} {t = t} {us = us} is ends e = record {
  tells = λ left below f.
      ap (left_at (a ∷ below)) is ∙ ap (λ m. when_it_fits (after m below (step below t)) (λ stack. left_at stack us) (suc (length us))) ends ∙ cc;
}

-- there are no more tokens
pub at_end : {a : Awaited} {ts : List Token} {e : ParseError} → AtEnd ts e → may_skip a ≡ false → Misses (a ∷ []) ts e
at_end {a = a} none ends = record {
  tells = λ left below f.
      let n : 0 ≡ left = same none.left f in
      ap (left_at (a ∷ below)) none.none ∙ ap (λ b. if b then end below else Some 0) ends ∙ ap Some n;
}
  where
    same : {e : ParseError} {n left : ℕ} → e ≡ Left n → e ≡ Left left → n ≡ left
    same p q = cc

-- ## Marks

-- a mark that doesn't stand in front fails its test
pub fails : {m : Mark} {t : Token} {ts : List Token} → NoMark m (t ∷ ts) → is_mark m t ≡ false
fails {m = m} {t = t} {ts = ts} free = by_test (is_mark m t) refl
  where
    by_test : (b : Bool) → is_mark m t ≡ b → b ≡ false
    by_test true e = absurd (free.none ts (ap (λ u. u ∷ ts) (mark_passed m t e)))
    by_test false e = refl

pub no_mark : {m : Mark} {ts : List Token} {e : ParseError} → NoMark m ts → e ≡ Left (length ts) → Misses (mark m ∷ []) ts e
no_mark {m = m} {ts = ts} free is = record { tells = λ left below e. stops ts free below ∙ ap Some (same is e) }
  where
    same : {e : ParseError} {n left : ℕ} → e ≡ Left n → e ≡ Left left → n ≡ left
    same p q = cc

    stops : (ts : List Token) → NoMark m ts → (below : List Awaited) → left_at (mark m ∷ below) ts ≡ Some (length ts)
    stops [] free below = refl
    stops (t ∷ ts) free below = ap (λ b. when_it_fits (after (starts_on b []) below (step below t)) (λ stack. left_at stack ts) (suc (length ts))) (fails free)

-- What begins with a mark alone is that mark, and then more.
pub as_mark : (a : Awaited) (m : Mark) (parts : List Awaited) (ts : List Token)
    → ((t : Token) (us : List Token) → ts ≡ t ∷ us → move_at a t ≡ starts_on (is_mark m t) parts)
    → may_skip a ≡ false → (below : List Awaited) → left_at (a ∷ below) ts ≡ left_at (mark m ∷ (parts ++ below)) ts
as_mark a m parts [] moves ends below = ap (λ b. if b then end below else Some 0) ends
as_mark a m parts (t ∷ ts) moves ends below =
    ap (λ v. when_it_fits (after v below (step below t)) (λ stack. left_at stack ts) (suc (length ts))) (moves t ts refl) ∙ by_test (is_mark m t)
  where
    by_test : (b : Bool) → when_it_fits (after (starts_on b parts) below (step below t)) (λ stack. left_at stack ts) (suc (length ts))
        ≡ when_it_fits (after (starts_on b []) (parts ++ below) (step (parts ++ below) t)) (λ stack. left_at stack ts) (suc (length ts))
    by_test true = refl
    by_test false = refl
