-- Which rules a statement breaks by its own parts, all at once.
use Rattle.std.specs.Prelude.{ℕ, Bool, true, false, not, ◌&&◌, ◌||◌, List, [], ◌∷◌, ◌++◌, is_none}
use Rattle.element_lang.specs.Surface.{SurfaceExpr, SurfaceExprs, SurfaceStmt, no_expr, expr, repeat}
use Rattle.element_lang.specs.Broken.{Sight, local_named, own_exprs, are_free, declares, binds, uses_unknown}
use Rattle.element_lang.specs.Broken.{takes_misfit, writes_fixed, misfits_object, changes_fixed, repeats_badly}
use Rattle.element_lang.specs.Broken.{repeats_an_end}
use Rattle.element_rules.specs.declared.expressions.Faults.{Faults}
use Rattle.element_rules.specs.declared.statements.StmtFaults.{StmtFaults}
use Rattle.element_rules.specs.Tested.{list_faults}

abbrev pub stmt_faults : Sight → SurfaceStmt → StmtFaults
stmt_faults sight s = record {
  exprs = list_faults sight.locals (own_exprs s);
  taken = not (are_free sight.objects sight.locals (declares sight s));
  unknown = uses_unknown sight s;
  misfit = takes_misfit sight s;
  fixed_field = writes_fixed s;
  object_misfit = misfits_object sight s;
  fixed_object = changes_fixed sight s;
  bad_repeat = repeats_badly sight s;
  repeats_an_end = repeats_an_end s;
}

-- only these expressions have faults
abbrev pub only_exprs : Faults → StmtFaults
only_exprs exprs = record {
  exprs = exprs;
  taken = false;
  unknown = false;
  misfit = false;
  fixed_field = false;
  object_misfit = false;
  fixed_object = false;
  bad_repeat = false;
  repeats_an_end = false;
}

-- the tests of the rules, from the lowest rule on, where a statement before may have ended the block
abbrev pub tests_of : Bool → StmtFaults → List (ℕ × Bool)
tests_of ended f =
    (2, f.exprs.bad_width)
    ∷ (4, f.exprs.too_large)
    ∷ (7, f.taken)
    ∷ (8, f.exprs.unknown || f.unknown)
    ∷ (9, not (f.exprs.unknown || f.unknown) && (f.exprs.misfit || f.misfit))
    ∷ (10, f.fixed_field)
    ∷ (11, not (f.exprs.unknown || f.unknown) && f.object_misfit)
    ∷ (12, not (f.exprs.unknown || f.unknown) && f.fixed_object)
    ∷ (13, f.exprs.far_shift || f.bad_repeat)
    ∷ (14, ended || f.repeats_an_end)
    ∷ []

-- what is seen behind a statement, apart from whether it ends the block
abbrev pub sight_behind : Sight → SurfaceStmt → Sight
sight_behind sight s = record {
  objects = sight.objects;
  locals = sight.locals ++ binds sight s;
  repeated = sight.repeated;
  ended = sight.ended;
}

-- the local that counts the turns has the name of none in scope
abbrev pub counts_apart : Sight → SurfaceStmt → Bool
counts_apart sight (repeat index count body) = is_none (local_named sight.locals index)
counts_apart sight _ = true

-- one expression alone
abbrev pub alone : SurfaceExpr → SurfaceExprs
alone e = expr e no_expr

-- what the statements of a repeat see, where this local counts its turns
abbrev pub within_repeat : Sight → List ℕ → Sight
within_repeat sight index = record {
  objects = sight.objects;
  locals = sight.locals ++ record { name = index; width = 32 } ∷ [];
  repeated = true;
  ended = false;
}

-- what is seen where a statement before may have ended the block
abbrev pub ended_sight : Bool → Sight → Sight
ended_sight ended sight = record {
  objects = sight.objects;
  locals = sight.locals;
  repeated = sight.repeated;
  ended = ended;
}
