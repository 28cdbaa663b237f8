-- The names of events in the head of the edges.
use Rattle.std.specs.Prelude.{ℕ, cond, ◌&&◌, List, drop, Ok, Err, Result, ◌==◌}
use Rattle.texts.specs.Numbers.{every}
use Rattle.clocks.specs.Letters.{lawful_name}
use Rattle.tables.specs.Lawful.{different}
use Rattle.formats.specs.TableText.{names_wrong, edge_head_wrong}

-- Names that are lawful and all different; else 4.
abbrev pub name_list : List (List ℕ) → Result (List (List ℕ)) ℕ
name_list ws = cond (every lawful_name ws && different ws) (Ok ws) (Err 4)

-- Names as the head of the edges takes them: 4, then 7 where there is none or there are over eight.
abbrev pub judged_names : List (List ℕ) → Result (List (List ℕ)) ℕ
judged_names ws = cond (names_wrong ws == 0) (Ok ws) (Err (names_wrong ws))

-- The names among the words of the head of the edges.
abbrev pub edge_names : List (List ℕ) → Result (List (List ℕ)) ℕ
edge_names ws = cond (edge_head_wrong ws == 0) (Ok (drop 3 ws)) (Err (edge_head_wrong ws))
