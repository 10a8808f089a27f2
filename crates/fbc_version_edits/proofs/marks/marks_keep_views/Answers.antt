use Rattle.fbc_version_edits.proofs.Marked.{marked_view}
use Rattle.fbc_version_edits.proofs.marks.marks_keep_views.Goals as goal

pub returns : goal.returns
returns c shape view number marked state content edit =
    record {
      sound = (marked_view shape view number marked state content edit).sound;
      chains = (marked_view shape view number marked state content edit).chains;
      others = (marked_view shape view number marked state content edit).others;
      now = (marked_view shape view number marked state content edit).marked;
      links = (marked_view shape view number marked state content edit).links;
      pages = (marked_view shape view number marked state content edit).pages;
      cells = (marked_view shape view number marked state content edit).cells;
    }
