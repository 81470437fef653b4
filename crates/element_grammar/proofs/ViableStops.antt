-- Where the machine stops, the tokens before it can go on to a source, and no source has the token there.
use Rattle.std.proofs.Common.{◌≡◌, ℕ, suc, List, [], ◌∷◌, ◌++◌, length, Option, Some, None, refl, sym, ap, subst, ◌∙◌}
use Rattle.std.proofs.lemmas.Option.{same_Some}
use Rattle.element_lang.specs.Token.{Token}
use Rattle.element_grammar.specs.Machine.{Awaited, operand, otherwise, Move, push, skip, refuse, move_at, after, step, end, when_it_fits, left_at}
use Rattle.element_grammar.proofs.Viable.{Completes, completion}
use Rattle.element_grammar.proofs.ViableMoves.{Keeps, keeps}

back_over : (m : Move) (a : Awaited) (t : Token) (below stack : List Awaited) (ts : List Token) → Keeps m a t
    → after m below (step below t) ≡ Some stack → (step below t ≡ Some stack → Completes below (t ∷ ts)) → Completes stack ts → Completes (a ∷ below) (t ∷ ts)
back_over (push parts) a t below stack ts k e again c =
    k below ts (let P : List Awaited → Type 0 = λ l. Completes l ts in subst P (sym (same_Some _ _ e)) c)
back_over skip a t below stack ts k e again c = k below (t ∷ ts) (again e)
back_over refuse a t below stack ts k e again c = cc

-- what completes the stack behind a token completes the stack before it, with the token in front
pub back : (stack : List Awaited) (t : Token) (later : List Awaited) (ts : List Token) → step stack t ≡ Some later → Completes later ts
    → Completes stack (t ∷ ts)
back [] t later ts e c = cc
back (a ∷ below) t later ts e c = back_over (move_at a t) a t below later ts (keeps a t) e (λ e. back below t later ts e c) c

-- the machine stops behind front, however the tokens go on behind the first of the rest
abbrev pub StopsAt : List Awaited → List Token → List Token → Type 0
StopsAt stack front [] = left_at stack front ≡ Some 0
StopsAt stack front (t ∷ rest) = (more : List Token) → left_at stack (front ++ t ∷ more) ≡ Some (suc (length more))

pub record Stops (stack : List Awaited) (ts : List Token) (left : ℕ) : Type 0 where
  pub front : List Token
  pub rest : List Token
  pub whole : front ++ rest ≡ ts
  pub count : length rest ≡ left
  pub more : List Token
  pub viable : Completes stack (front ++ more)
  pub stops : StopsAt stack front rest

ends_at_0 : (stack : List Awaited) (n : ℕ) → end stack ≡ Some n → n ≡ 0
ends_at_0 [] n e = cc
ends_at_0 (operand ∷ below) n e = ends_at_0 below n e
ends_at_0 (otherwise ∷ below) n e = ends_at_0 below n e
ends_at_0 (_ ∷ below) n e = cc

further : (stack : List Awaited) (t : Token) (later : List Awaited) (front rest : List Token) → step stack t ≡ Some later
    → StopsAt later front rest → StopsAt stack (t ∷ front) rest
further stack t later front [] e h = ap (λ o. when_it_fits o (λ below. left_at below front) (suc (length front))) e ∙ h
further stack t later front (u ∷ rest) e h = λ more.
    ap (λ o. when_it_fits o (λ below. left_at below (front ++ u ∷ more)) (suc (length (front ++ u ∷ more)))) e ∙ h more

stops_by : (o : Option (List Awaited)) (t : Token) (ts : List Token) (stack : List Awaited) (n : ℕ) → step stack t ≡ o
    → when_it_fits o (λ below. left_at below ts) (suc (length ts)) ≡ Some n
    → ((later : List Awaited) → left_at later ts ≡ Some n → Stops later ts n) → Stops stack (t ∷ ts) n
stops_by None t ts stack n is e again = record {
  front = [];
  rest = t ∷ ts;
  whole = refl;
  count = cc;
  more = (completion stack).0;
  viable = (completion stack).1;
  stops = λ more. ap (λ o. when_it_fits o (λ below. left_at below more) (suc (length more))) is;
}
stops_by (Some later) t ts stack n is e again =
    let h = again later e in
    record {
      front = t ∷ h.front;
      rest = h.rest;
      whole = ap (λ l. t ∷ l) h.whole;
      count = h.count;
      more = h.more;
      viable = back stack t later (h.front ++ h.more) is h.viable;
      stops = further stack t later h.front h.rest is h.stops;
    }

pub stops_at : (ts : List Token) (stack : List Awaited) (n : ℕ) → left_at stack ts ≡ Some n → Stops stack ts n
stops_at [] stack n e =
    let z = ends_at_0 stack n e in
    record {
      front = [];
      rest = [];
      whole = refl;
      count = sym z;
      more = (completion stack).0;
      viable = (completion stack).1;
      stops = e ∙ ap Some z;
    }
stops_at (t ∷ ts) stack n e = stops_by (step stack t) t ts stack n refl e (λ later e. stops_at ts later n e)
