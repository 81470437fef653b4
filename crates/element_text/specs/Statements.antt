-- What the Rust values of statements with numbers stand for.
use Rattle.std.specs.Prelude.{List, Option, Some}
use Rattle.element_lang.specs.declared.tree.Stmt.{Stmt}
use Rattle.element_lang.specs.View.{stmt_tree, body_tree}
use Rattle.element_text.specs.declared.scope.Scope.{Scope}
use Rattle.element_text.specs.Resolve.{Made, MadeBody}
use Rattle.element_text.specs.Scopes.{env_of}

-- this statement, and this scope behind it
abbrev pub some_stmt : Stmt → Scope → Option Made
some_stmt stmt scope = Some (record { tree = stmt_tree stmt; env = env_of scope })

-- these statements, and the locals behind them
abbrev pub some_body : List Stmt → Scope → Option MadeBody
some_body body scope = Some (record { tree = body_tree body; locals = scope.locals })
