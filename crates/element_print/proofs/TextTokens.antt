-- The tokens of a printed text.
use Rattle.std.proofs.Common.{◌≡◌, ℕ, zero, suc, ◌+◌, true, false, List, [], ◌∷◌, ◌++◌, length, drop, nat_lt, Some, IsUtf8, refl, sym, ap, subst, ◌∙◌, arith, length-append, lit<}
use Rattle.std.specs.List.{list_all}
use Rattle.std.specs.Str.{IsAscii}
use Rattle.std.proofs.Math.Seq.{drop-append_seam}
use Rattle.std.proofs.lemmas.Str.{IsUtf8-from_ascii}
use Rattle.std.proofs.lemmas.List.Folds.{list_all-append}
use Rattle.element_lang.specs.Token.{Token, Placed, Lexeme, gap, lexeme, HasTokens}
use Rattle.element_lang.specs.Accepted.{plain}
use Rattle.element_print.specs.Printed.{token_text, text_of}
use Rattle.element_print.specs.ReadsBack.{HasExactly}
use Rattle.element_print.proofs.Marks.{space, feed}
use Rattle.element_print.proofs.Words.{Readable}
use Rattle.lemmas.proofs.Tests.{and_first, and_second}
use Rattle.std.proofs.lemmas.Bool.{and_from, ltb-true}

abbrev pub AllReadable : List Token → Type 0
AllReadable [] = Unit {0}
AllReadable (t ∷ ts) = Readable t × AllReadable ts

pub readable_append : (ts us : List Token) → AllReadable ts → AllReadable us → AllReadable (ts ++ us)
readable_append [] us h k = k
readable_append (t ∷ ts) us (h, hs) k = (h, readable_append ts us hs k)

-- what stands behind a token, where these follow it
abbrev tail_of : List Token → List ℕ
tail_of [] = 10 ∷ []
tail_of (t ∷ ts) = 32 ∷ (token_text t ++ tail_of ts)

text_tail : (t : Token) (ts : List Token) → text_of (t ∷ ts) ≡ token_text t ++ tail_of ts
text_tail t [] = refl
text_tail t (u ∷ ts) = ap (λ bs. token_text t ++ 32 ∷ bs) (text_tail u ts)

-- a readable token in front of what stands behind it
in_front : (t : Token) (ts : List Token) → Readable t → lexeme (token_text t ++ tail_of ts) ≡ Some (record { token = t; len = length (token_text t) })
in_front t [] h = h.read [] feed
in_front t (u ∷ ts) h = h.read (token_text u ++ tail_of ts) space

no_gap_in_front : (t : Token) (ts : List Token) → Readable t → gap false (token_text t ++ tail_of ts) ≡ 0
no_gap_in_front t [] h = h.front [] feed
no_gap_in_front t (u ∷ ts) h = h.front (token_text u ++ tail_of ts) space

one_more : (offset n : ℕ) (bs : List ℕ) (x : Lexeme) (ts : List Placed) (stop : ℕ) (rest : List ℕ)
    → gap false bs ≡ n → lexeme (drop n bs) ≡ Some x → HasTokens (offset + n + x.len) (drop x.len (drop n bs)) ts stop rest
    → HasTokens offset bs (record { token = x.token; offset = offset + n } ∷ ts) stop rest
one_more offset n bs x ts stop rest e =
    let Found : ℕ → Type 0 = λ n. lexeme (drop n bs) ≡ Some x in
    let Others : ℕ → Type 0 = λ n. HasTokens (offset + n + x.len) (drop x.len (drop n bs)) ts stop rest in
    let P : ℕ → Type 0 = λ n. Found n → Others n → HasTokens offset bs (record { token = x.token; offset = offset + n } ∷ ts) stop rest in
    subst P e (λ found others. (x, found, refl, others))

-- the tokens from a place on
record Rest (offset : ℕ) (bs : List ℕ) (ts : List Token) : Type 0 where
  placed : List Placed
  tokens : HasTokens offset bs placed (offset + length bs) []
  plain : plain placed ≡ ts

moved : (offset offset' : ℕ) (bs bs' : List ℕ) (stop stop' : ℕ) (ts : List Placed) → offset ≡ offset' → bs ≡ bs' → stop ≡ stop'
    → HasTokens offset bs ts stop [] → HasTokens offset' bs' ts stop' []
moved offset offset' bs bs' stop stop' ts e f g h =
    let P : ℕ → Type 0 = λ o. HasTokens o bs ts stop [] in
    let Q : List ℕ → Type 0 = λ b. HasTokens offset' b ts stop [] in
    let R : ℕ → Type 0 = λ s. HasTokens offset' bs' ts s [] in
    subst R g (subst Q f (subst P e h))

behind : (offset n : ℕ) (bs : List ℕ) (t : Token) (ts : List Token) → Readable t → gap false bs ≡ n → drop n bs ≡ token_text t ++ tail_of ts
    → length bs ≡ n + length (token_text t ++ tail_of ts)
    → Rest (offset + n + length (token_text t)) (tail_of ts) ts → Rest offset bs (t ∷ ts)
behind offset n bs t ts h skipped here count rest =
    let x : Lexeme = record { token = t; len = length (token_text t) } in
    let next : tail_of ts ≡ drop x.len (drop n bs) = sym (ap (drop x.len) here ∙ drop-append_seam (token_text t) (tail_of ts)) in
    let stop : offset + n + x.len + length (tail_of ts) ≡ offset + length bs = omega (arith, count, length-append (token_text t) (tail_of ts)) in
    record {
      placed = record { token = t; offset = offset + n } ∷ rest.placed;
      tokens = one_more offset n bs x rest.placed (offset + length bs) [] skipped (ap lexeme here ∙ in_front t ts h)
          (moved _ _ _ _ _ _ rest.placed refl next stop rest.tokens);
      plain = ap (λ us. t ∷ us) rest.plain;
    }

tail_tokens : (offset : ℕ) (ts : List Token) → AllReadable ts → Rest offset (tail_of ts) ts
tail_tokens offset [] h = record { placed = []; tokens = (refl, refl); plain = refl }
tail_tokens offset (t ∷ ts) (h, hs) =
    behind offset 1 (tail_of (t ∷ ts)) t ts h (ap suc (no_gap_in_front t ts h)) refl (omega arith) (tail_tokens (offset + 1 + length (token_text t)) ts hs)

some_tokens : (t : Token) (ts : List Token) → AllReadable (t ∷ ts) → HasExactly (text_of (t ∷ ts)) (t ∷ ts)
some_tokens t ts (h, hs) =
    let here = text_tail t ts in
    let all = behind 0 0 (text_of (t ∷ ts)) t ts h (ap (gap false) here ∙ no_gap_in_front t ts h) here (omega (arith, ap length here))
    (tail_tokens (0 + 0 + length (token_text t)) ts hs) in
    record { placed = all.placed; tokens = moved _ _ _ _ _ _ all.placed refl refl (omega arith) all.tokens; plain = all.plain }

pub text_tokens : (ts : List Token) → AllReadable ts → HasExactly (text_of ts) ts
text_tokens [] h = record { placed = []; tokens = (refl, refl); plain = refl }
text_tokens (t ∷ ts) h = some_tokens t ts h

-- ## ASCII

small_at : (bs : List ℕ) → list_all (λ b. nat_lt b 128) bs ≡ true → IsAscii bs
small_at [] h i = lit< tt
small_at (b ∷ bs) h zero = ltb-true b 128 (and_first (nat_lt b 128) (list_all (λ b. nat_lt b 128) bs) h)
small_at (b ∷ bs) h (suc i) = small_at bs (and_second (nat_lt b 128) (list_all (λ b. nat_lt b 128) bs) h) i

small_tail : (ts : List Token) → AllReadable ts → list_all (λ b. nat_lt b 128) (tail_of ts) ≡ true
small_tail [] h = refl
small_tail (t ∷ ts) (h, hs) = list_all-append (λ b. nat_lt b 128) (token_text t) (tail_of ts) ∙ and_from _ _ h.ascii (small_tail ts hs)

pub text_utf8 : (ts : List Token) → AllReadable ts → IsUtf8 (text_of ts)
text_utf8 [] h = IsUtf8-from_ascii (10 ∷ []) (small_at (10 ∷ []) refl)
text_utf8 (t ∷ ts) (h, hs) =
    let small : list_all (λ b. nat_lt b 128) (token_text t ++ tail_of ts) ≡ true = list_all-append (λ b. nat_lt b 128) (token_text t) (tail_of ts)
    ∙ and_from _ _ h.ascii (small_tail ts hs) in
    subst IsUtf8 (sym (text_tail t ts)) (IsUtf8-from_ascii (token_text t ++ tail_of ts) (small_at (token_text t ++ tail_of ts) small))
