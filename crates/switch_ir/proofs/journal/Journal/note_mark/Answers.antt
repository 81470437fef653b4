use Rattle.std.proofs.Common.{◌++◌, ◌∷◌, [], refl, sym, ap, ◌∙◌, arith, append-nil}
use Rattle.switch_ir.specs.Journal.{JournalState, entry_in}
use Rattle.switch_ir.proofs.Journals.{kept}
use Rattle.switch_ir.proofs.journal.Journal.note_mark.Goals as goal

pub invariant_of-self-2 : goal.invariant_of-self-2
invariant_of-self-2 c =
    let j = c.self.inside in (
      (kept j.bytes.items _ [] [] [] c.reserve.ensures.items c.push_reserved.ensures.items refl (sym (append-nil j.numbers.items)) (sym (append-nil j.numbers.items))
          (sym (append-nil j.bytes.items)) refl c.requires.short c.requires.none refl c.self.invariant.0).0,
      omega (arith, c.in_ok-reserve.ensures.ok),
      omega arith,
    )

pub returns-clause-ok : goal.returns-clause-ok
returns-clause-ok c =
    let j = c.self.inside in
    ap (λ es. record { entries = es; spare = j.spare })
    (kept j.bytes.items _ [] [] [] c.reserve.ensures.items c.push_reserved.ensures.items refl (sym (append-nil j.numbers.items)) (sym (append-nil j.numbers.items))
    (sym (append-nil j.bytes.items)) refl c.requires.short c.requires.none refl c.self.invariant.0).1
    ∙ ap (λ (state : JournalState). record { entries = state.entries ++ entry_in c.args.call [] [] ∷ []; spare = state.spare }) c.self.view_is
