use Rattle.std.proofs.Common.{◌≡◌, ◌∷◌, ◌++◌, [], List, ap, ◌∙◌, arith, append_assoc}
use Rattle.element_lang.specs.declared.mark.Mark.TheVariants.{Process, LeftBrace, RightBrace}
use Rattle.element_lang.specs.Surface.{named}
use Rattle.element_lang.specs.Token.{Token, fixed}
use Rattle.element_lang.specs.View.{tree}
use Rattle.element_print.specs.Printed.{text_of, print_tokens, decls_tokens, body_tokens}
use Rattle.element_print.specs.Spaced.{spaced}
use Rattle.element_print.proofs.Spaces.{spaces}
use Rattle.element_print.proofs.middlebox.written.Goals as goal

pub returns : goal.returns
returns c =
    let m = named (tree c.args.m.now) in
    let ts : List Token = decls_tokens m.objects ++ fixed Process ∷ fixed LeftBrace ∷ body_tokens m.body in
    let all : c.put_body.new.out ≡ spaced ts = grind (arith, spaces) in
    let same : ts ++ fixed RightBrace ∷ []
    ≡ print_tokens m = append_assoc (decls_tokens m.objects) (fixed Process ∷ fixed LeftBrace ∷ body_tokens m.body) (fixed RightBrace ∷ []) in
    c.in_ok-text.ensures ts all ∙ ap text_of same
