-- What a token gives in a column. It is what its word gives, told by the word's shape.
use Rattle.std.specs.Prelude.{ℕ, true, false, cond, ◌&&◌, List, length, Ok, Err, codes, Result, ◌==◌, nat_le}
use Rattle.std.specs.Str.{bytes_eq}
use Rattle.meaning.specs.declared.values.Bound.TheVariants.{Any, Never, AtLeast, Between}
use Rattle.texts.specs.Numbers.{number}
use Rattle.texts.specs.Tokens.{Piece, a_name, a_number, a_bound, an_other}
use Rattle.clocks.specs.Search.{first_of}
use Rattle.rows.specs.declared.cell.Cell.{Cell}
use Rattle.rows.specs.declared.cell.Cell.TheVariants.{Number, Absent, Flag, Bounded}
use Rattle.rows.specs.declared.cell.Column.{Column}
use Rattle.rows.specs.declared.cell.Column.TheVariants.{Within, NotBelow, YesOrNo, EventName, Limit, NumberOrNone}
use Rattle.rows.specs.declared.cell.WordFault.{WordFault}
use Rattle.rows.specs.declared.cell.WordFault.TheVariants.{Misfit, OutOfRange}
use Rattle.rows.specs.Rows.{numbered, ranged, named}

abbrev pub number_within : ℕ → ℕ → List ℕ → Result Cell WordFault
number_within least most w = numbered (number w) (ranged least most)

abbrev pub yes_or_no : List ℕ → Result Cell WordFault
yes_or_no w = cond (bytes_eq w (codes "yes")) (Ok (Flag true)) (cond (bytes_eq w (codes "no")) (Ok (Flag false)) (Err Misfit))

abbrev pub event_named : List (List ℕ) → List ℕ → Result Cell WordFault
event_named names w = named (first_of (λ name. bytes_eq name w) names)

abbrev pub limit_named : List ℕ → Result Cell WordFault
limit_named w = cond (bytes_eq w (codes "any")) (Ok (Bounded Any)) (cond (bytes_eq w (codes "none")) (Ok (Bounded Never)) (Err Misfit))

abbrev pub limit_from : ℕ → Result Cell WordFault
limit_from a = cond (nat_le a 250) (Ok (Bounded (AtLeast a))) (Err OutOfRange)

abbrev pub limit_between : ℕ → ℕ → Result Cell WordFault
limit_between a b = cond (nat_le a b && nat_le b 250) (Ok (Bounded (Between a b))) (Err OutOfRange)

abbrev pub limit_of_parts : List ℕ → List ℕ → Result Cell WordFault
limit_of_parts first second = numbered (number first) (λ a. cond (length second == 0) (limit_from a) (numbered (number second) (limit_between a)))

abbrev pub any_number : List ℕ → Result Cell WordFault
any_number w = numbered (number w) (λ n. Ok (Number n))

abbrev pub no_number : List ℕ → Result Cell WordFault
no_number w = cond (bytes_eq w (codes "none")) (Ok Absent) (Err Misfit)

abbrev pub cell_from_token : Column → ℕ → Piece → Result Cell WordFault
cell_from_token (Within least most) before (a_name w line) = Err Misfit
cell_from_token (Within least most) before (a_number w line) = number_within least most w
cell_from_token (Within least most) before (a_bound first second line) = Err Misfit
cell_from_token (Within least most) before (an_other w line) = Err Misfit
cell_from_token (NotBelow most) before (a_name w line) = Err Misfit
cell_from_token (NotBelow most) before (a_number w line) = number_within before most w
cell_from_token (NotBelow most) before (a_bound first second line) = Err Misfit
cell_from_token (NotBelow most) before (an_other w line) = Err Misfit
cell_from_token YesOrNo before (a_name w line) = yes_or_no w
cell_from_token YesOrNo before (a_number w line) = Err Misfit
cell_from_token YesOrNo before (a_bound first second line) = Err Misfit
cell_from_token YesOrNo before (an_other w line) = Err Misfit
cell_from_token EventName before (a_name w line) = Err Misfit
cell_from_token EventName before (a_number w line) = Err Misfit
cell_from_token EventName before (a_bound first second line) = Err Misfit
cell_from_token EventName before (an_other w line) = Err Misfit
cell_from_token Limit before (a_name w line) = limit_named w
cell_from_token Limit before (a_number w line) = Err Misfit
cell_from_token Limit before (a_bound first second line) = limit_of_parts first second
cell_from_token Limit before (an_other w line) = Err Misfit
cell_from_token NumberOrNone before (a_name w line) = no_number w
cell_from_token NumberOrNone before (a_number w line) = any_number w
cell_from_token NumberOrNone before (a_bound first second line) = Err Misfit
cell_from_token NumberOrNone before (an_other w line) = Err Misfit
