-- Tokens spell one surface tree.
use Rattle.std.proofs.Common.{◌≡◌, ℕ, List, ◌∷◌, refl, sym, ap, subst, ◌∙◌}
use Rattle.element_lang.specs.declared.mark.Mark.TheVariants as marks
use Rattle.element_lang.specs.Token.{Token, fixed}
use Rattle.element_lang.specs.Surface.{SurfaceBody, Literal, SurfaceRow, SurfaceDecl, Declared, Surface}
use Rattle.element_lang.specs.Grammar.{AreWidths, is_last_width, is_width_and_more, AreLiterals, is_last_literal, is_literal_and_more, AreRows, are_no_rows, are_rows, IsDecl, is_table, is_map, is_vector, is_int, IsMiddlebox, is_process, is_declared, Spells}
use Rattle.element_grammar.proofs.UniqueExprs.{Same, tail}
use Rattle.element_grammar.proofs.UniqueStmts.{one_body}

pub one_widths : {ws vs : List ℕ} {ts rest last : List Token} → AreWidths ws ts rest → AreWidths vs ts last → Same ws vs rest last
one_widths is_last_width is_last_width = record { tree = refl; rest = refl }
one_widths (is_width_and_more p) (is_width_and_more p') = let h = one_widths p p' in record { tree = cc (h.tree); rest = h.rest }

pub one_literals : {ls ks : List Literal} {ts rest last : List Token} → AreLiterals ls ts rest → AreLiterals ks ts last → Same ls ks rest last
one_literals is_last_literal is_last_literal = record { tree = refl; rest = refl }
one_literals (is_literal_and_more p) (is_literal_and_more p') = let h = one_literals p p' in record { tree = cc (h.tree); rest = h.rest }

-- a part from the same place
widths_from : {ws : List ℕ} {ts us rest : List Token} → ts ≡ us → AreWidths ws us rest → AreWidths ws ts rest
widths_from {ws = ws} {rest = rest} same p = let P : List Token → Type 0 = λ ts. AreWidths ws ts rest in subst P (sym same) p

literals_from : {ls : List Literal} {ts us rest : List Token} → ts ≡ us → AreLiterals ls us rest → AreLiterals ls ts rest
literals_from {ls = ls} {rest = rest} same p = let P : List Token → Type 0 = λ ts. AreLiterals ls ts rest in subst P (sym same) p

rows_from : {rs : List SurfaceRow} {ts us rest : List Token} → ts ≡ us → AreRows rs us rest → AreRows rs ts rest
rows_from {rs = rs} {rest = rest} same p = let P : List Token → Type 0 = λ ts. AreRows rs ts rest in subst P (sym same) p

middlebox_from : {ds : List Declared} {b : SurfaceBody} {ts us rest : List Token} → ts ≡ us → IsMiddlebox ds b us rest → IsMiddlebox ds b ts rest
middlebox_from {ds = ds} {b = b} {rest = rest} same p = let P : List Token → Type 0 = λ ts. IsMiddlebox ds b ts rest in subst P (sym same) p

pub one_rows : {rs qs : List SurfaceRow} {ts rest last : List Token} → AreRows rs ts rest → AreRows qs ts last → Same rs qs rest last
one_rows are_no_rows are_no_rows = record { tree = refl; rest = refl }
one_rows (are_rows p q r) (are_rows p' q' r') =
    let h = one_literals p p' in
    let i = one_literals q (literals_from (tail (tail h.rest)) q') in
    let j = one_rows r (rows_from (tail i.rest) r') in
    record { tree = cc (h.tree, i.tree, j.tree); rest = j.rest }

pub one_decl : {d z : SurfaceDecl} {ts rest last : List Token} → IsDecl d ts rest → IsDecl z ts last → Same d z rest last
one_decl (is_table p q r) (is_table p' q' r') =
    let h = one_widths p p' in
    let i = one_widths q (widths_from (tail (tail h.rest)) q') in
    let j = one_rows r (rows_from (tail i.rest) r') in
    record { tree = cc (h.tree, i.tree, j.tree); rest = j.rest }
one_decl (is_map p q) (is_map p' q') =
    let h = one_widths p p' in
    let i = one_widths q (widths_from (tail (tail h.rest)) q') in
    record { tree = cc (h.tree, i.tree, i.rest); rest = tail (tail (tail i.rest)) }
one_decl (is_vector p) (is_vector p') = let h = one_widths p p' in record { tree = cc (h.tree); rest = tail h.rest }
one_decl is_int is_int = record { tree = refl; rest = refl }

no_process : {d : SurfaceDecl} {ts rest : List Token} → IsDecl d (fixed marks.Process ∷ ts) rest → ⊥
no_process p = elim p [ ]

-- the same declarations, the same body and the same rest
record SameWhole (ds es : List Declared) (b c : SurfaceBody) (ts us : List Token) : Type 0 where
  objects : ds ≡ es
  body : b ≡ c
  rest : ts ≡ us

one_middlebox : {ds es : List Declared} {b c : SurfaceBody} {ts rest last : List Token} → IsMiddlebox ds b ts rest → IsMiddlebox es c ts last
    → SameWhole ds es b c rest last
one_middlebox (is_process p) (is_process p') = let h = one_body p p' in record { objects = refl; body = h.tree; rest = h.rest }
one_middlebox (is_process p) (is_declared d' m') = absurd (no_process d')
one_middlebox (is_declared d m) (is_process p') = absurd (no_process d)
one_middlebox (is_declared d m) (is_declared d' m') =
    let h = one_decl d d' in
    let i = one_middlebox m (middlebox_from h.rest m') in
    record { objects = cc (h.tree, i.objects); body = i.body; rest = i.rest }

same_surface : (a b : Surface) → a.objects ≡ b.objects → a.body ≡ b.body → a ≡ b
same_surface a b e f =
    let with_objects : List Declared → Surface = λ o. record { objects = o; body = a.body } in
    let with_body : SurfaceBody → Surface = λ c. record { objects = b.objects; body = c } in
    ap with_objects e ∙ ap with_body f

pub one_surface : {ts : List Token} {a b : Surface} → Spells ts a → Spells ts b → a ≡ b
one_surface {a = a} {b = b} p q = let h = one_middlebox p q in same_surface a b h.objects h.body
