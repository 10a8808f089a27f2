-- The bytes of the fresh file, and those after a commit or a part of it, are sound files, and what they mean.
use Rattle.std.proofs.Common.{◌≡◌, ◌≤◌, ◌⊎◌, ℕ, zero, suc, List, [], ◌∷◌, length, take, slice_get, slice_set, Some, inl, inr, refl, ap, sym, subst, ◌∙◌, arith, lit<}
use Rattle.std.specs.Prelude.{count_by, reverse}
use Rattle.fbc_kinds.specs.declared.pages.Header.{Header}
use Rattle.fbc_kinds.specs.declared.pages.Page.{Page}
use Rattle.fbc_kinds.specs.declared.pages.Page.TheVariants as kind
use Rattle.fbc_kinds.specs.declared.pages.State.TheVariants.{Committed}
use Rattle.fbc_kinds.specs.declared.snapshots.Standing.TheVariants as standing
use Rattle.fbc_kinds.specs.File.{IsFile}
use Rattle.fbc_kinds.specs.Limits.{IsPageSize}
use Rattle.fbc_kinds.specs.Machine.{Machine, empty}
use Rattle.fbc_kinds.specs.Meaning.{MeanTheSame, meaning_of}
use Rattle.fbc_files.specs.Pages.{ShowsPages, listed_view}
use Rattle.fbc_files.specs.Shapes.{shape_of}
use Rattle.fbc_script.specs.declared.single.Step.{Step}
use Rattle.fbc_script.specs.SingleTransaction.{is_insert}
use Rattle.fbc_console.specs.declared.writes.PageImage.{PageImage}
use Rattle.fbc_console.specs.Committing.{IsCommitted, IsPartCommitted}
use Rattle.fbc_files.specs.NewPages.{active_states}
use Rattle.fbc_console.specs.Images.{IsFreshFile, AreImages, commit_pages}
use Rattle.fbc_console.specs.Transaction.{inserted}
use Rattle.fbc_console.specs.Writes.{bytes_after}
use Rattle.fbc_console.specs.PlayTheorem.{IsFileOf, machine_of}
use Rattle.fbc_console.proofs.PlayedMachine.{machine_with, machine-of}
use Rattle.fbc_console.proofs.PlayedPages.{WritesPages, shape_at, fresh_pages, begun_pages, quiet_pages, taken_pages, held_pages, named_pages, filled_pages}
use Rattle.fbc_console.proofs.SayingLemmas.{length-inserted, count_by-reverse}
use Rattle.fbc_console.proofs.SmallFile.{Small, header_with, tail_of, pages_of, view_of, IsSmall, sound}
use Rattle.fbc_console.proofs.SmallFiles.{fresh_small, begun_small, quiet_small, taken_small, held_small, named_small, filled_small, IsSmall-fresh, IsSmall-begun, IsSmall-quiet, IsSmall-taken, IsSmall-held, IsSmall-named, IsSmall-filled, active_at, committed_at, next_at}
use Rattle.fbc_console.proofs.SmallMeaning.{means_committed, means_rolled_back, means_nothing}

-- What makes a file of a list of pages.
abbrev pub MakesFile : Type 0
MakesFile =
    (reach : ℕ) (header : Header) (pages : List Page) (bytes : List ℕ)
    → IsPageSize header.size
    → ShowsPages (shape_of reach header) (kind.Header header ∷ pages) bytes
    → IsFile reach bytes (shape_of reach header) (listed_view (kind.Header header ∷ pages))

module _ (reach : ℕ) (makes : MakesFile) where
  -- The bytes of a small file mean what it means.
  file_of : (s : Small) (values : List (List ℕ)) (count : ℕ) (bytes : List ℕ) (machine : Machine) → IsSmall s values count → ShowsPages (shape_at reach) (pages_of s) bytes → MeanTheSame (meaning_of (view_of s)) machine → IsFileOf reach bytes machine
  file_of s values count bytes machine small shows means = record {
    view = view_of s;
    sound = record { shape = shape_at reach; file = makes reach (header_with s.next) (tail_of s) bytes (inl refl) shows; sound = sound s values count small };
    means = means;
  }

  pub fresh_file : (bytes : List ℕ) → IsFreshFile bytes → IsFileOf reach bytes empty
  fresh_file bytes fresh =
      file_of fresh_small [] 4 bytes empty IsSmall-fresh (fresh_pages reach bytes fresh) (means_nothing fresh_small 4 IsSmall-fresh refl (active_at 4032 1 (lit< tt)))

  -- A small file in which transaction 1 has begun and is not committed.
  begun_file : (s : Small) (values : List (List ℕ)) (count : ℕ) (bytes : List ℕ) → IsSmall s values count → s.next ≡ 2 → s.states ≡ active_states 4032 → ShowsPages (shape_at reach) (pages_of s) bytes → IsFileOf reach bytes empty
  begun_file s values count bytes small next states shows =
      file_of s values count bytes empty small shows
      (means_rolled_back s values count small next (ap (λ held. slice_get held 1) states ∙ active_at 4032 1 (lit< tt)) (ap (λ held. slice_get held 2) states ∙ active_at 4032 2 (lit< tt)))

  -- A small file in which it is committed.
  done_file : (s : Small) (values : List (List ℕ)) (count : ℕ) (bytes : List ℕ) → IsSmall s values count → s.next ≡ 2 → s.states ≡ slice_set (active_states 4032) 1 Committed → ShowsPages (shape_at reach) (pages_of s) bytes → IsFileOf reach bytes (machine_with standing.Committed values)
  done_file s values count bytes small next states shows =
      file_of s values count bytes (machine_with standing.Committed values) small shows
      (means_committed s values count small next (ap (λ held. slice_get held 1) states ∙ committed_at 4032 (lit< tt)) (ap (λ held. slice_get held 2) states ∙ next_at 4032 (lit< tt)))

-- The bytes are a file that means the machine without rows, or the one with these values.
abbrev IsEitherFile : ℕ → List (List ℕ) → List ℕ → Type 0
IsEitherFile reach values bytes = IsFileOf reach bytes empty ⊎ IsFileOf reach bytes (machine_with standing.Committed values)

module _ (reach : ℕ) (writes : WritesPages) (makes : MakesFile) (before : List ℕ) (fresh : IsFreshFile before) where
  shows : ShowsPages (shape_at reach) (pages_of fresh_small) before
  shows = fresh_pages reach before fresh

  -- All images of a commit, without an insert and with some.
  quiet_file : (images : List PageImage) → AreImages (commit_pages []) images → IsFileOf reach (bytes_after (reverse images) before) (machine_with standing.Committed [])
  quiet_file [] are = absurd are
  quiet_file (header ∷ []) are = absurd are.1
  quiet_file (header ∷ tip ∷ []) are = done_file reach makes quiet_small [] 4 _ IsSmall-quiet refl refl (quiet_pages reach writes before shows header are.0 tip are.1.0)
  quiet_file (header ∷ tip ∷ more ∷ images) are = absurd are.1.1

  filled_file : (value : List ℕ) (values : List (List ℕ)) (images : List PageImage) → length (value ∷ values) ≤ 45 → AreImages (commit_pages (value ∷ values)) images → IsFileOf reach (bytes_after (reverse images) before) (machine_with standing.Committed (value ∷ values))
  filled_file value values [] room are = absurd are
  filled_file value values (header ∷ []) room are = absurd are.1
  filled_file value values (header ∷ inventory ∷ []) room are = absurd are.1.1
  filled_file value values (header ∷ inventory ∷ held ∷ []) room are = absurd are.1.1.1
  filled_file value values (header ∷ inventory ∷ held ∷ pointer ∷ []) room are = absurd are.1.1.1.1
  filled_file value values (header ∷ inventory ∷ held ∷ pointer ∷ tip ∷ []) room are =
      done_file reach makes (filled_small (value ∷ values)) (value ∷ values) 5 _ (IsSmall-filled (value ∷ values) room) refl refl
      (filled_pages reach writes before shows header are.0 inventory are.1.0 (value ∷ values) held are.1.1.0 pointer are.1.1.1.0 tip are.1.1.1.1.0)
  filled_file value values (header ∷ inventory ∷ held ∷ pointer ∷ tip ∷ more ∷ images) room are = absurd are.1.1.1.1.1

  -- The first images of a commit.
  quiet_part : (images : List PageImage) → AreImages (commit_pages []) images → (count : ℕ) → count ≤ length images → IsEitherFile reach [] (bytes_after (reverse (take count images)) before)
  quiet_part [] are count within = absurd are
  quiet_part (header ∷ []) are count within = absurd are.1
  quiet_part (header ∷ tip ∷ []) are zero within = inl (fresh_file reach makes before fresh)
  quiet_part (header ∷ tip ∷ []) are (suc zero) within = inl (begun_file reach makes begun_small [] 4 _ IsSmall-begun refl refl (begun_pages reach writes before shows header are.0))
  quiet_part (header ∷ tip ∷ []) are (suc (suc zero)) within = inr (quiet_file (header ∷ tip ∷ []) are)
  quiet_part (header ∷ tip ∷ []) are (suc (suc (suc count))) within = absurd (omega (arith, within))
  quiet_part (header ∷ tip ∷ more ∷ images) are count within = absurd are.1.1

  module _ (value : List ℕ) (values : List (List ℕ)) (room : length (value ∷ values) ≤ 45) where
    five_part : (header inventory held pointer tip : PageImage) → AreImages (commit_pages (value ∷ values)) (header ∷ inventory ∷ held ∷ pointer ∷ tip ∷ []) → (count : ℕ) → count ≤ 5 → IsEitherFile reach (value ∷ values) (bytes_after (reverse (take count (header ∷ inventory ∷ held ∷ pointer ∷ tip ∷ []))) before)
    five_part header inventory held pointer tip are zero within = inl (fresh_file reach makes before fresh)
    five_part header inventory held pointer tip are (suc zero) within = inl (begun_file reach makes begun_small [] 4 _ IsSmall-begun refl refl (begun_pages reach writes before shows header are.0))
    five_part header inventory held pointer tip are (suc (suc zero)) within = inl (begun_file reach makes taken_small [] 4 _ IsSmall-taken refl refl (taken_pages reach writes before shows header are.0 inventory are.1.0))
    five_part header inventory held pointer tip are (suc (suc (suc zero))) within =
        inl (begun_file reach makes (held_small (value ∷ values)) [] 4 _ (IsSmall-held (value ∷ values)) refl refl
        (held_pages reach writes before shows header are.0 inventory are.1.0 (value ∷ values) held are.1.1.0))
    five_part header inventory held pointer tip are (suc (suc (suc (suc zero)))) within =
        inl (begun_file reach makes (named_small (value ∷ values)) (value ∷ values) 5 _ (IsSmall-named (value ∷ values) room) refl refl
        (named_pages reach writes before shows header are.0 inventory are.1.0 (value ∷ values) held are.1.1.0 pointer are.1.1.1.0))
    five_part header inventory held pointer tip are (suc (suc (suc (suc (suc zero))))) within = inr (filled_file value values (header ∷ inventory ∷ held ∷ pointer ∷ tip ∷ []) room are)
    five_part header inventory held pointer tip are (suc (suc (suc (suc (suc (suc count)))))) within = absurd (omega (arith, within))

    filled_part : (images : List PageImage) → AreImages (commit_pages (value ∷ values)) images → (count : ℕ) → count ≤ length images → IsEitherFile reach (value ∷ values) (bytes_after (reverse (take count images)) before)
    filled_part [] are count within = absurd are
    filled_part (header ∷ []) are count within = absurd are.1
    filled_part (header ∷ inventory ∷ []) are count within = absurd are.1.1
    filled_part (header ∷ inventory ∷ held ∷ []) are count within = absurd are.1.1.1
    filled_part (header ∷ inventory ∷ held ∷ pointer ∷ []) are count within = absurd are.1.1.1.1
    filled_part (header ∷ inventory ∷ held ∷ pointer ∷ tip ∷ []) are count within = five_part header inventory held pointer tip are count within
    filled_part (header ∷ inventory ∷ held ∷ pointer ∷ tip ∷ more ∷ images) are count within = absurd are.1.1.1.1.1

  any_file : (values : List (List ℕ)) (images : List PageImage) → length values ≤ 45 → AreImages (commit_pages values) images → IsFileOf reach (bytes_after (reverse images) before) (machine_with standing.Committed values)
  any_file [] images room are = quiet_file images are
  any_file (value ∷ values) images room are = filled_file value values images room are

  any_part : (values : List (List ℕ)) (images : List PageImage) → length values ≤ 45 → AreImages (commit_pages values) images → (count : ℕ) → count ≤ length images → IsEitherFile reach values (bytes_after (reverse (take count images)) before)
  any_part [] images room are count within = quiet_part images are count within
  any_part (value ∷ values) images room are count within = filled_part value values room images are count within

  few_values : (steps : List Step) → count_by is_insert steps ≤ 45 → length (inserted (reverse steps)) ≤ 45
  few_values steps few =
      let count : length (inserted (reverse steps)) ≡ count_by is_insert steps = length-inserted (reverse steps) ∙ count_by-reverse steps in
      omega (arith, count, few)

  pub committed_file : (now : List ℕ) (steps : List Step) → count_by is_insert steps ≤ 45 → IsCommitted (Some before) (Some now) (inserted (reverse steps)) → IsFileOf reach now (machine_of steps)
  committed_file now steps few committed =
      let is : now ≡ bytes_after (reverse committed.images) before = cc (committed.after) in
      subst (λ bytes. IsFileOf reach bytes (machine_of steps)) (sym is)
      (subst (IsFileOf reach (bytes_after (reverse committed.images) before)) (sym (machine-of steps)) (any_file (inserted (reverse steps)) committed.images (few_values steps few) committed.are))

  pub part_file : (now : List ℕ) (steps : List Step) → count_by is_insert steps ≤ 45 → IsPartCommitted (Some before) (Some now) (inserted (reverse steps)) → IsFileOf reach now empty ⊎ IsFileOf reach now (machine_of steps)
  part_file now steps few part =
      let is : now ≡ bytes_after (reverse (take part.after.count part.images)) before = cc (part.after.after) in
      subst (λ bytes. IsFileOf reach bytes empty ⊎ IsFileOf reach bytes (machine_of steps)) (sym is)
      (subst (λ machine. IsFileOf reach (bytes_after (reverse (take part.after.count part.images)) before) empty ⊎ IsFileOf reach (bytes_after (reverse (take part.after.count part.images)) before) machine) (sym (machine-of steps))
      (any_part (inserted (reverse steps)) part.images (few_values steps few) part.are part.after.count part.after.within))
