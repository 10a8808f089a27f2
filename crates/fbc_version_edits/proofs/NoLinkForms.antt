-- Which edits of a cell make no new link: first and own versions, moves, cuts and clears.
use Rattle.std.proofs.Common.{◌∙◌, ◌<◌, ◌==◌, ℕ, inl, inr, refl, sym, ap, subst}
use Rattle.fbc_kinds.specs.declared.pages.Cell.{Cell}
use Rattle.fbc_kinds.specs.DataSpelling.{empty_cell}
use Rattle.fbc_kinds.specs.Sound.{IsSound}
use Rattle.fbc_kinds.specs.View.{View, is_back, is_empty, is_top, next_of}
use Rattle.fbc_version_edits.specs.Forms.{IsCut, IsFirst, IsMove, IsOwnAgain}
use Rattle.fbc_page_edits.specs.Facing.{IsLinked}
use Rattle.fbc_version_edits.proofs.Flags.{back_of_empty, top_of_back, top_of_empty, unlinked, unreached}
use Rattle.fbc_version_edits.proofs.NoNewLinks.{MakesNoLink, names_none}

module _ {view : View} (sound : IsSound view) (page cell : ℕ) where
  pub first_unlinked : (new : Cell) (first : IsFirst view page cell new) → ¬ IsLinked view page cell
  first_unlinked new first = unlinked sound page cell first.old first.stands (back_of_empty first.old.flag first.over)

  pub no_link_first : (new : Cell) (first : IsFirst view page cell new) → MakesNoLink view page cell first.old new
  no_link_first new first = record {
    link = λ relation back_page back_cell reached names. absurd (names_none new back_page back_cell first.alone names);
    tops = λ is. inr (record { begins = is; over = first.over; alone = first.alone });
    value = λ linked. absurd (first_unlinked new first linked);
    begun = λ relation sequence named some. first.begun;
  }

  pub own_unlinked : (new : Cell) (own : IsOwnAgain view page cell new) → ¬ IsLinked view page cell
  own_unlinked new own = unlinked sound page cell own.old own.stands (ap is_back own.over)

  pub no_link_own : (new : Cell) (own : IsOwnAgain view page cell new) → MakesNoLink view page cell own.old new
  no_link_own new own = record {
    link = λ relation back_page back_cell reached names. (
      record {
        some = ap (λ n. n == 0) (sym own.link.page) ∙ names.some;
        page_is = sym own.link.page ∙ names.page_is;
        cell_is = sym own.link.cell ∙ names.cell_is;
      },
      own.same_number,
    );
    tops = λ is. inl (ap is_top own.over);
    value = λ linked. absurd (own_unlinked new own linked);
    begun = λ relation sequence named some.
        subst (λ n. n < next_of view) (sym own.same_number) (sound.numbers relation sequence page cell own.old named own.stands (ap is_empty own.over));
  }

  pub move_unlinked : (new : Cell) (move : IsMove view page cell new) → ¬ IsLinked view page cell
  move_unlinked new move = unlinked sound page cell move.old move.stands (back_of_empty move.old.flag move.over)

  pub no_link_move : (new : Cell) (move : IsMove view page cell new) → MakesNoLink view page cell move.old new
  no_link_move new move = record {
    link = λ relation back_page back_cell reached names.
        absurd (unreached sound relation page cell move.old move.stands (top_of_empty move.old.flag move.over) (move_unlinked new move) reached);
    tops = λ is. (let not_top = top_of_back new.flag move.value in cc);
    value = λ linked. absurd (move_unlinked new move linked);
    begun = λ relation sequence named some. move.begun;
  }

  pub no_link_cut : (new : Cell) (cut : IsCut view page cell new) → MakesNoLink view page cell cut.old new
  no_link_cut new cut = record {
    link = λ relation back_page back_cell reached names. absurd (names_none new back_page back_cell (ap (λ (v : Cell). v.back_page) cut.same) names);
    tops = λ is. inl (sym (ap (λ (v : Cell). is_top v.flag) cut.same) ∙ is);
    value = λ linked. (ap (λ (v : Cell). is_back v.flag) cut.same, ap (λ (v : Cell). v.number) cut.same);
    begun = λ relation sequence named some.
        subst (λ n. n < next_of view) (sym (ap (λ (v : Cell). v.number) cut.same))
        (sound.numbers relation sequence page cell cut.old named cut.stands (sym (ap (λ (v : Cell). is_empty v.flag) cut.same) ∙ some));
  }

  -- An empty cell is put over what no version names.
  pub no_link_clear : (old : Cell) → ¬ IsLinked view page cell → MakesNoLink view page cell old empty_cell
  no_link_clear old none = record {
    link = λ relation back_page back_cell reached names. absurd (names_none empty_cell back_page back_cell refl names);
    tops = λ is. cc;
    value = λ linked. absurd (none linked);
    begun = λ relation sequence named some. cc;
  }
