-- How many bytes a printed text has, told from the tree: each token's own, and one for what stands after it.
use Rattle.std.specs.Prelude.{ℕ, suc, ◌+◌, ◌-◌, ◌*◌, ◌^◌, ◌==◌, min, Bool, true, false, List, [], ◌∷◌, length, map}
use Rattle.std.specs.Prelude.{decimal, slice_index, if◌then◌else◌}
use Rattle.gal_bits.specs.declared.op.Op.TheVariants as ops
use Rattle.packet_fields.specs.declared.field.Field.{Field}
use Rattle.packet_fields.specs.declared.field.Field.TheVariants.{MetaPort}
use Rattle.packet_fields.specs.Table.{row, field_index}
use Rattle.state_store.specs.declared.object.Kind.{Kind}
use Rattle.state_store.specs.declared.object.Kind.TheVariants.{Table, Map, Vector, Int}
use Rattle.state_store.specs.declared.object.Row.{Row}
use Rattle.state_store.specs.declared.object.ObjectDecl.{ObjectDecl}
use Rattle.element_lang.specs.declared.mark.Mark.{Mark}
use Rattle.element_lang.specs.declared.mark.Mark.TheVariants as marks
use Rattle.element_lang.specs.Mark.{spelling}
use Rattle.element_lang.specs.Rules.{count_of, is_empty}
use Rattle.element_lang.specs.Surface.{SurfaceExpr, named_expr}
use Rattle.element_lang.specs.Tree.{ExprTree, Exprs, StmtTree, BodyTree, Tree}
use Rattle.element_lang.specs.Tree.ExprTree.{lit, local, field, byte, shift, apply}
use Rattle.element_lang.specs.Tree.Exprs.{no_expr, expr}
use Rattle.element_lang.specs.Tree.StmtTree.{let_local, assign, set_field, look, put, del, choose, repeat, send, drop}
use Rattle.element_lang.specs.Tree.BodyTree.{done, stmt}
use Rattle.element_print.specs.declared.place.Place.{Place}
use Rattle.element_print.specs.declared.place.Place.TheVariants.{Whole, Operand, Turned}
use Rattle.element_print.specs.declared.lengths.NameLengths.{NameLengths}
use Rattle.element_print.specs.Printed.{needs_brackets, mark_of}

-- a count of 64 bits: the count itself, or the greatest that 64 bits can hold
abbrev pub capped : ℕ → ℕ
capped n = min n (2 ^ 64 - 1)

-- How many bytes names have: those of locals and of objects by number, 0 where a number has none; and how many a reading
-- of `meta.port` takes, with what stands after it.
pub record Lengths : Type 0 where
  pub locals : List ℕ
  pub objects : List ℕ
  pub port : ℕ

abbrev pub lengths_by : NameLengths → Lengths
lengths_by names = record { locals = names.locals.now; objects = names.objects.now; port = names.port }

-- ## Tokens, with the blank after each

abbrev pub mark_length : Mark → ℕ
mark_length m = suc (length (spelling m))

abbrev pub number_length : ℕ → ℕ
number_length n = suc (length (decimal n))

abbrev pub name_length : List ℕ → ℕ → ℕ
name_length lengths x = suc (slice_index lengths x)

abbrev pub field_length : Field → ℕ
field_length f = suc (length (row f).name)

abbrev pub lengths_of : Tree → Lengths
lengths_of m = record {
  locals = map (λ l. length l.name) m.locals;
  objects = map (λ o. length o.name) m.objects;
  port = field_length MetaPort;
}

-- a number and its width
abbrev pub literal_length : ℕ → ℕ → ℕ
literal_length value width = number_length value + mark_length marks.Colon + number_length width

-- a pair of brackets, where it is needed
abbrev pub brackets_length : Bool → ℕ
brackets_length true = mark_length marks.LeftParen + mark_length marks.RightParen
brackets_length false = 0

-- a mark between two of so many parts
abbrev pub between_length : Mark → ℕ → ℕ
between_length m count = (count - 1) * mark_length m

-- ## Expressions

-- the expression as it is written but for its names, which don't matter to brackets
abbrev pub nameless : ExprTree → SurfaceExpr
nameless = named_expr (record { objects = []; locals = []; body = done })

abbrev pub read_length : Lengths → Field → ℕ
read_length l f = if field_index f == field_index MetaPort then l.port else field_length f

-- how an operator is written whose operands are between brackets and commas, or beside symbols
abbrev pub call_length : Mark → ℕ
call_length m = mark_length m + brackets_length true

abbrev mutual
  pub expr_length : Lengths → ExprTree → ℕ
  expr_length l (lit value width) = literal_length value width
  expr_length l (local x) = name_length l.locals x
  expr_length l (field f) = read_length l f
  expr_length l (byte index) = call_length marks.Byte + expr_length l index
  expr_length l (shift op by arg) =
      brackets_length (needs_brackets Operand (nameless arg)) + expr_length l arg + mark_length (mark_of op) + number_length by
  expr_length l (apply ops.Not width args) =
      mark_length marks.Tilde + parts_length l Turned args + between_length marks.Comma (count_of args)
  expr_length l (apply ops.Cast width args) =
      call_length marks.Cast + number_length width + parts_length l Whole args
      + count_of args * mark_length marks.Comma
  expr_length l (apply ops.Select width args) =
      call_length marks.Select + parts_length l Whole args + between_length marks.Comma (count_of args)
  expr_length l (apply ops.Adjust width args) =
      call_length marks.Adjust + parts_length l Whole args + between_length marks.Comma (count_of args)
  expr_length l (apply op width args) =
      parts_length l Operand args + between_length (mark_of op) (count_of args)

  -- expressions at such a place, without what stands between two of them
  pub parts_length : Lengths → Place → Exprs → ℕ
  parts_length l place no_expr = 0
  parts_length l place (expr e es) =
      brackets_length (needs_brackets place (nameless e)) + expr_length l e + parts_length l place es

-- expressions with commas between them
abbrev pub exprs_length : Lengths → Exprs → ℕ
exprs_length l es = parts_length l Whole es + between_length marks.Comma (count_of es)

-- ## Statements

-- an object, and a key in square brackets
abbrev pub keyed_length : Lengths → ℕ → Exprs → ℕ
keyed_length l object keys =
    name_length l.objects object + mark_length marks.LeftBracket + exprs_length l keys
    + mark_length marks.RightBracket

-- the names of locals, each after a comma
abbrev pub names_length : Lengths → List ℕ → ℕ
names_length l [] = 0
names_length l (x ∷ xs) = mark_length marks.Comma + name_length l.locals x + names_length l xs

abbrev pub braces_length : ℕ
braces_length = mark_length marks.LeftBrace + mark_length marks.RightBrace

-- nothing for an empty second block
abbrev pub else_length : Bool → ℕ
else_length true = 0
else_length false = mark_length marks.Else + braces_length

-- a statement, but for what stands in its blocks
abbrev pub head_length : Lengths → StmtTree → ℕ
head_length l (let_local x value) =
    mark_length marks.Let + name_length l.locals x + mark_length marks.Assign + expr_length l value
    + mark_length marks.Semicolon
head_length l (assign x value) =
    name_length l.locals x + mark_length marks.Assign + expr_length l value + mark_length marks.Semicolon
head_length l (set_field f value) =
    field_length f + mark_length marks.Assign + expr_length l value + mark_length marks.Semicolon
head_length l (look found into object keys) =
    mark_length marks.Look + name_length l.locals found + names_length l into + mark_length marks.Assign
    + keyed_length l object keys + mark_length marks.Semicolon
head_length l (put ok object keys values) =
    mark_length marks.Put + name_length l.locals ok + mark_length marks.Assign + keyed_length l object keys
    + mark_length marks.Arrow + exprs_length l values + mark_length marks.Semicolon
head_length l (del was object keys) =
    mark_length marks.Del + name_length l.locals was + mark_length marks.Assign + keyed_length l object keys
    + mark_length marks.Semicolon
head_length l (choose cond first second) =
    mark_length marks.If + expr_length l cond + braces_length + else_length (is_empty second)
head_length l (repeat index count body) =
    mark_length marks.Repeat + name_length l.locals index + number_length count + braces_length
head_length l (send port) = mark_length marks.Send + expr_length l port + mark_length marks.Semicolon
head_length l drop = mark_length marks.Drop + mark_length marks.Semicolon

abbrev mutual
  pub stmt_length : Lengths → StmtTree → ℕ
  stmt_length l (choose cond first second) =
      head_length l (choose cond first second) + (body_length l first + body_length l second)
  stmt_length l (repeat index count body) = head_length l (repeat index count body) + body_length l body
  stmt_length l s = head_length l s

  pub body_length : Lengths → BodyTree → ℕ
  body_length l done = 0
  body_length l (stmt s b) = stmt_length l s + body_length l b

-- ## Declarations

-- widths in brackets, and numbers with their widths
abbrev pub widths_sum : List ℕ → ℕ
widths_sum [] = 0
widths_sum (w ∷ ws) = number_length w + widths_sum ws

abbrev pub widths_length : List ℕ → ℕ
widths_length ws = brackets_length true + widths_sum ws + between_length marks.Comma (length ws)

abbrev pub literals_sum : List ℕ → List ℕ → ℕ
literals_sum widths [] = 0
literals_sum [] (n ∷ ns) = literal_length n 0 + literals_sum [] ns
literals_sum (w ∷ ws) (n ∷ ns) = literal_length n w + literals_sum ws ns

abbrev pub literals_length : List ℕ → List ℕ → ℕ
literals_length widths ns = brackets_length true + literals_sum widths ns + between_length marks.Comma (length ns)

abbrev pub row_length : List ℕ → List ℕ → Row → ℕ
row_length keys values r =
    literals_length keys r.keys + mark_length marks.Arrow + literals_length values r.values
    + mark_length marks.Semicolon

abbrev pub rows_length : List ℕ → List ℕ → List Row → ℕ
rows_length keys values [] = 0
rows_length keys values (r ∷ rs) = row_length keys values r + rows_length keys values rs

-- a declaration of this kind, but for the bytes of its name
abbrev pub length_as : Kind → ObjectDecl → ℕ
length_as Table o =
    mark_length marks.Table + 1 + widths_length o.keys + mark_length marks.Arrow + widths_length o.values
    + braces_length + rows_length o.keys o.values o.rows
length_as Map o =
    mark_length marks.Map + 1 + widths_length o.keys + mark_length marks.Arrow + widths_length o.values
    + mark_length marks.Capacity + number_length o.size + mark_length marks.Semicolon
length_as Vector o =
    mark_length marks.Vector + 1 + mark_length marks.Length + number_length o.size + mark_length marks.Arrow
    + widths_length o.values + mark_length marks.Semicolon
length_as Int o =
    mark_length marks.Int + 1 + mark_length marks.Colon + number_length (slice_index o.values 0)
    + mark_length marks.Assign + number_length o.start + mark_length marks.Semicolon

abbrev pub decl_length : ObjectDecl → ℕ
decl_length o = length o.name + length_as o.kind o

abbrev pub decls_length : List ObjectDecl → ℕ
decls_length [] = 0
decls_length (o ∷ os) = decl_length o + decls_length os

-- ## The whole

-- all that stands around the statements
abbrev pub frame_length : ℕ
frame_length = mark_length marks.Process + braces_length

abbrev pub text_length : Tree → ℕ
text_length m = decls_length m.objects + frame_length + body_length (lengths_of m) m.body
