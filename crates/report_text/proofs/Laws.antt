-- What holds of every report.
use Rattle.std.specs.Prelude.{IsTrue, List, ℕ, ◌≡◌}
use Rattle.run_model.specs.declared.run.Run.{Run}
use Rattle.run_text.specs.Report.{report_of}
use Rattle.state_store.specs.declared.object.ObjectDecl.{ObjectDecl}
use Rattle.report_text.proofs.Declared.{all_known}
use Rattle.report_text.proofs.Reports.{first_wrong_once, printed_is}
use Rattle.report_text.specs.Form.{InForm, are_declared}
use Rattle.report_text.specs.Lines.{IsFirstWrong, IsReport}

-- What is printed of a run in the form is a report of it, so that it is read back as that run.
pub printed_runs_are_read : (declared : List ObjectDecl) → (run : Run) → IsTrue (are_declared declared) → InForm declared run
    → IsReport declared (report_of declared run) run
printed_runs_are_read = λ declared run known form. printed_is declared (all_known declared known) run form

-- No two lines of a text are the first wrong one.
pub one_report_line_is_first_wrong : (declared : List ObjectDecl) → (ls : List (List ℕ)) → (j k : ℕ)
    → IsFirstWrong declared ls j → IsFirstWrong declared ls k → j ≡ k
one_report_line_is_first_wrong = λ declared ls j k f g. first_wrong_once declared ls j k f g
