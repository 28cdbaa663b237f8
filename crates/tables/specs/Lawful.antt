-- The limits of a table: which ticks, names, places, edges and bounds it may have.
use Rattle.std.specs.Prelude.{ℕ, suc, Bool, true, false, cond, not, ◌&&◌, ◌||◌, List, [], ◌∷◌, length, is_some, ◌==◌, nat_le, nat_lt}
use Rattle.std.specs.Str.{bytes_eq}
use Rattle.meaning.specs.declared.values.Bound.{Bound}
use Rattle.meaning.specs.declared.values.Bound.TheVariants.{Any, Never, AtLeast, Between}
use Rattle.meaning.specs.declared.values.Edge.{Edge}
use Rattle.meaning.specs.Tables.{Contents}
use Rattle.texts.specs.Numbers.{every}
use Rattle.clocks.specs.Letters.{lawful_name}
use Rattle.clocks.specs.Search.{first_of}

-- No name stands again later in the list.
abbrev pub different : List (List ℕ) → Bool
different [] = true
different (name ∷ names) = not (is_some (first_of (λ other. bytes_eq other name) names)) && different names

-- There are 1 to 8 names, all different.
abbrev pub lawful_names : List (List ℕ) → Bool
lawful_names names = (nat_le 1 (length names) && nat_le (length names) 8) && (every lawful_name names && different names)

-- Numbers in bounds are at most 250, and the first is not above the second.
abbrev pub lawful_bound : Bound → Bool
lawful_bound Any = true
lawful_bound Never = true
lawful_bound (AtLeast a) = nat_le a 250
lawful_bound (Between a b) = nat_le a b && nat_le b 250

abbrev pub is_any : Bound → Bool
is_any Any = true
is_any Never = false
is_any (AtLeast a) = false
is_any (Between a b) = false

-- A lawful bound for each of n events, and `any` for the rest, where the first of the list is that of event i.
abbrev pub lawful_bounds : ℕ → ℕ → List Bound → Bool
lawful_bounds n i [] = true
lawful_bounds n i (b ∷ bs) = cond (nat_lt i n) (lawful_bound b) (is_any b) && lawful_bounds n (suc i) bs

-- An edge of a table with n events and m places.
abbrev pub lawful_edge : ℕ → ℕ → Edge → Bool
lawful_edge n m e = (nat_lt e.source m && nat_lt e.target m) && (nat_lt e.event n && (length e.bounds == 8 && lawful_bounds n 0 e.bounds))

abbrev pub lawful_edges : ℕ → ℕ → List Edge → Bool
lawful_edges n m edges = nat_le (length edges) 64 && every (lawful_edge n m) edges

-- A tick of 1 to 60,000 milliseconds, 1 to 8 events, 1 to 32 places and at most 64 edges.
abbrev pub lawful : Contents → Bool
lawful t =
    (nat_le 1 t.tick && nat_le t.tick 60000)
    && (lawful_names t.names && ((nat_le 1 (length t.places) && nat_le (length t.places) 32) && lawful_edges (length t.names) (length t.places) t.edges))

-- The blank table has tick 0 and nothing in it.
abbrev pub blank : Contents
blank = record { tick = 0; names = []; places = []; edges = [] }

abbrev pub is_blank : Contents → Bool
is_blank t = (t.tick == 0 && length t.names == 0) && (length t.places == 0 && length t.edges == 0)

-- What a table may hold.
abbrev pub standing : Contents → Bool
standing t = is_blank t || lawful t
