-- The lines of a text that is a report, and the first line at which it is none.
use Rattle.std.specs.Prelude.{◌≡◌, ◌<◌, ◌≤◌, ℕ, suc, List, ◌++◌, length, take}
use Rattle.gal_io.specs.Lines.{lines, told_of}
use Rattle.state_store.specs.declared.object.ObjectDecl.{ObjectDecl}
use Rattle.run_model.specs.declared.run.Run.{Run}
use Rattle.run_text.specs.Report.{report_of}
use Rattle.report_text.specs.Form.{InForm}
use Rattle.report_text.specs.declared.error.RunTextError.{RunTextError}
use Rattle.report_text.specs.declared.error.RunTextError.TheVariants.{Line}

-- Lines of a report: the run that they tell is in the form, and they are those of its printed text, and skipped ones.
pub record AreLinesOf (declared : List ObjectDecl) (ls : List (List ℕ)) (run : Run) : Type 0 where
  pub form : InForm declared run
  pub told : told_of ls ≡ lines (report_of declared run)

-- the text is a report of this run
abbrev pub IsReport : List ObjectDecl → List ℕ → Run → Type 0
IsReport declared text run = AreLinesOf declared (lines text) run

-- some report begins with these lines
abbrev pub Begins : List ObjectDecl → List (List ℕ) → Type 0
Begins declared front = (more : List (List ℕ)) × (run : Run) × AreLinesOf declared (front ++ more) run

-- Lines that are no report, and the place of the first wrong one: some report begins with the lines before it, and none
-- with that one as well. Where it is behind the last, the lines end too early.
pub record IsFirstWrong (declared : List ObjectDecl) (ls : List (List ℕ)) (before : ℕ) : Type 0 where
  pub within : before ≤ length ls
  pub begins : Begins declared (take before ls)
  pub wrong : before < length ls → Begins declared (take (suc before) ls) → ⊥
  pub none : (run : Run) → AreLinesOf declared ls run → ⊥

-- the error names the first wrong line, counted from 1
abbrev pub IsRefused : List ObjectDecl → List ℕ → RunTextError → Type 0
IsRefused declared text e =
    (before : ℕ) × (e ≡ Line (suc before)) × IsFirstWrong declared (lines text) before
