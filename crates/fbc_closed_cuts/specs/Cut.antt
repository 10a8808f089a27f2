-- Cuts: which drafts may reach the file together, and what it then holds.
use Rattle.std.specs.Prelude.{◌≡◌, ℕ, Bool, true, not, ◌==◌, ◌||◌, if◌then◌else◌, List, IsSome}
use Rattle.std.specs.List.{All, list_any}
use Rattle.fbc_kinds.specs.declared.edges.Edge.{Edge}
use Rattle.fbc_kinds.specs.View.{View}
use Rattle.fbc_world.specs.World.{IsPairIn, World, newest_of}
use Rattle.fbc_kinds.specs.Order.{StandsBefore}

-- A set of pages, as a test.
abbrev pub Cut : Type 0
Cut = ℕ → Bool

-- The set of the pages of a list.
abbrev pub is_listed : List ℕ → Cut
is_listed pages page = list_any (λ listed. listed == page) pages

-- A closed cut is a set of drafted pages, of any owners, that has with a page every drafted page that stands before it.
pub record IsClosedCut (w : World) (cut : Cut) : Type 0 where
  pub drafted : (page : ℕ) → cut page ≡ true → IsSome (w.draft page)
  pub closed : (high low : ℕ) → StandsBefore (IsPairIn w) high low → IsSome (w.draft high) → cut low ≡ true → cut high ≡ true

-- What the file holds with the drafts of a cut: inside it the newest content, and outside what is kept.
abbrev pub view : World → Cut → View
view w cut page = if cut page then newest_of w page else w.kept page

-- The high page of an edge is listed if the low one is.
abbrev pub closes : List ℕ → Edge → Bool
closes pages edge = not (is_listed pages edge.low) || is_listed pages edge.high

-- So it is for each of these edges.
abbrev pub AreClosed : List ℕ → List Edge → Type 0
AreClosed pages edges = All (λ (edge : Edge). is_listed pages edge.low ≡ true → is_listed pages edge.high ≡ true) edges
