-- What stands after some of the writes of a new file.
use Rattle.std.proofs.Common.{◌≡◌, ◌≢◌, ◌+◌, ◌-◌, ◌*◌, ◌<◌, ◌≤◌, ◌==◌, ℕ, zero, suc, Bool, true, false, List, [], length, Some, None, max, refl, sym, ap, ◌∙◌, inl, inr, arith, subst}
use Rattle.std.specs.Prelude.{Option, Result, Ok, Err, OnOk, slice_index_or, if◌then◌else◌}
use Rattle.std.proofs.lemmas.Bool.{cases_lt}
use Rattle.std.proofs.lemmas.Bool.Decides.{nat_tests}
use Rattle.std.proofs.lemmas.List.{get_or_default, same_lists}
use Rattle.std.proofs.lemmas.Option.{same_Some}
use Rattle.fbc_kinds.specs.declared.pages.Page.{Page}
use Rattle.fbc_kinds.specs.declared.pages.Page.TheVariants as kind
use Rattle.fbc_kinds.specs.File.{stands_under}
use Rattle.fbc_outside.specs.Bytes.{written}
use Rattle.fbc_files.specs.Creating.{AreNewPages, HoldsIfEmpty, IsPagePut, IsNewFile, IsPagePutOrNot, IsPartOfNewFile, ShowsSome, ShowsWritten, new_shape, page_of_write, written_pages}
use Rattle.fbc_files.specs.declared.relations.NewRelation.{NewRelation}
use Rattle.fbc_files.specs.NewPages.{AreNewRelations, new_pages, page_count}
use Rattle.fbc_files.specs.Pages.{ShowsPages, listed_view, with_page}
use Rattle.fbc_files.proofs.NewFits.{length-new_pages}
use Rattle.fbc_files.proofs.PageWrites.{ShowsPages-written, length-with_page, with_page_at}

-- What stands in a list after a page was put into it, in its place and elsewhere.
put_there : (number : ℕ) (page : Page) (pages : List Page) → slice_index_or (with_page number page pages) number kind.Blank ≡ page
put_there number page pages = same_Some (slice_index_or (with_page number page pages) number kind.Blank) page (with_page_at number page pages number ∙ here (number == number) (grind (arith, nat_tests)))
  where
    here : (b : Bool) → b ≡ true → (if b then Some page else listed_view pages number) ≡ Some page
    here b is = rw is refl

put_elsewhere : (number : ℕ) (page : Page) (pages : List Page) (other : ℕ) → other ≢ number → slice_index_or (with_page number page pages) other kind.Blank ≡ slice_index_or pages other kind.Blank
put_elsewhere number page pages other differ = same_Some (slice_index_or (with_page number page pages) other kind.Blank) (slice_index_or pages other kind.Blank) (with_page_at number page pages other ∙ there (other == number) (grind (arith, nat_tests)))
  where
    there : (b : Bool) → b ≡ false → (if b then Some page else listed_view pages other) ≡ listed_view pages other
    there b is = rw is refl

-- The pages before the header is written: nothing, or a blank one and behind it those that were written.
pub record ArePartial (pages : List Page) (count : ℕ) (held : List Page) : Type 0 where
  pub none : count ≡ 0 → held ≡ []
  pub some : 0 < count → length held ≡ count + 1
  pub front : slice_index_or held 0 kind.Blank ≡ kind.Blank
  pub there : (k : ℕ) → 1 ≤ k → k ≤ count → slice_index_or held k kind.Blank ≡ slice_index_or pages k kind.Blank

middle_write : (pages number : ℕ) → number < pages → page_of_write pages number ≡ number
middle_write pages number below = grind (arith, nat_tests)

last_write : (pages number : ℕ) → number ≡ pages → page_of_write pages number ≡ 0
last_write pages number is = grind (arith, nat_tests)

-- One more page.
one_more : (pages : List Page) (count number : ℕ) (held : List Page) → number ≡ count + 1 → ArePartial pages count held → ArePartial pages (count + 1) (with_page number (slice_index_or pages number kind.Blank) held)
one_more pages count number held is part =
    let page : Page = slice_index_or pages number kind.Blank in
    record {
      none = λ zero. absurd (omega arith);
      some = λ more. length-with_page number page held ∙ longest;
      front = put_elsewhere number page held 0 (λ same. omega arith) ∙ part.front;
      there = λ k from to.
          elim (cases_lt k number) [
            | inl before ↦ put_elsewhere number page held k (λ same. omega arith) ∙ part.there k from (omega arith)
            | inr here ↦ let same : k ≡ number = omega arith in rw same (put_there number page held)
          ];
    }
  where
    longest : max (length held) (number + 1) ≡ count + 1 + 1
    longest = elim (cases_lt 0 count) [
      | inl more ↦ omega (arith, part.some more)
      | inr first ↦ let none : count ≡ 0 = omega arith in omega (arith, ap length (part.none none))
    ]

pub ArePartial-written : (pages : List Page) (count : ℕ) → count < length pages → ArePartial pages count (written_pages pages count)
ArePartial-written pages zero below = record {
  none = λ zero. refl;
  some = λ more. absurd (omega arith);
  front = refl;
  there = λ k from to. absurd (omega arith);
}
ArePartial-written pages (suc count) below =
    let before = ArePartial-written pages count (omega arith) in
    let next : suc count ≡ count + 1 = omega arith in
    let number : page_of_write (length pages) (suc count) ≡ suc count = middle_write (length pages) (suc count) below in
    subst (λ (n : ℕ). ArePartial pages n (written_pages pages (suc count))) (sym next)
    (subst (λ (n : ℕ). ArePartial pages (count + 1) (with_page n (slice_index_or pages n kind.Blank) (written_pages pages count))) (sym number) (one_more pages count (suc count) (written_pages pages count) next before))

-- The header put in front of them.
completed : (pages held : List Page) (count : ℕ) → length pages ≡ suc count → ArePartial pages count held → with_page 0 (slice_index_or pages 0 kind.Blank) held ≡ pages
completed pages held count long part = same_lists (with_page 0 page held) pages (length-with_page 0 page held ∙ longest) (λ k d below.
    let within : k < length pages = omega (arith, length-with_page 0 page held, longest) in
    get_or_default (with_page 0 page held) k d kind.Blank below ∙ (at k within ∙ get_or_default pages k kind.Blank d within))
  where
    page : Page
    page = slice_index_or pages 0 kind.Blank

    longest : max (length held) (0 + 1) ≡ length pages
    longest = elim (cases_lt 0 count) [
      | inl more ↦ omega (arith, part.some more)
      | inr first ↦ let none : count ≡ 0 = omega arith in omega (arith, ap length (part.none none))
    ]

    at : (k : ℕ) → k < length pages → slice_index_or (with_page 0 page held) k kind.Blank ≡ slice_index_or pages k kind.Blank
    at k below = elim (cases_lt 0 k) [
      | inl behind ↦ put_elsewhere 0 page held k (λ same. omega arith) ∙ part.there k (omega arith) (omega arith)
      | inr front ↦ let same : k ≡ 0 = omega arith in rw same (put_there 0 page held)
    ]

-- After all writes the pages stand.
pub written_pages-all : (pages : List Page) (count : ℕ) → length pages ≡ suc count → written_pages pages (length pages) ≡ pages
written_pages-all pages count long =
    let part = ArePartial-written pages count (omega arith) in
    let number : page_of_write (length pages) (suc count) ≡ 0 = last_write (length pages) (suc count) (sym long) in
    ap (written_pages pages) long
    ∙ (ap (λ (n : ℕ). with_page n (slice_index_or pages n kind.Blank) (written_pages pages count)) number
    ∙ completed pages (written_pages pages count) count long part)

-- One write on.
holds_more : (size : ℕ) (pages : List Page) (count number : ℕ) (page : Page) (before now after : Option (List ℕ)) → number ≡ page_of_write (length pages) (suc count) → page ≡ slice_index_or pages number kind.Blank → stands_under number page ≡ true → HoldsIfEmpty (ShowsWritten size pages count) before now → IsPagePut size number page now after → HoldsIfEmpty (ShowsWritten size pages (suc count)) before after
holds_more size pages count number page None None after place is stands holds put = put
holds_more size pages count number page None (Some now) after place is stands holds put = cc
holds_more size pages count number page (Some bytes) None after place is stands holds put = absurd holds
holds_more size pages count number page (Some bytes) (Some now) None place is stands holds put = absurd put
holds_more size pages count number page (Some bytes) (Some now) (Some after) place is stands holds put = λ empty shape sized.
    let all : with_page number page (written_pages pages count) ≡ written_pages pages (suc count) =
    ap (λ (p : Page). with_page number p (written_pages pages count)) is
    ∙ ap (λ (n : ℕ). with_page n (slice_index_or pages n kind.Blank) (written_pages pages count)) place in
    let bytes_are : written (number * shape.size) put.image now ≡ after = ap (λ (n : ℕ). written (number * n) put.image now) sized ∙ sym put.is in
    rw (all, bytes_are) at (ShowsPages-written shape number page put.image now (written_pages pages count) (record { spelled = put.spelled shape sized; stands = stands }) (holds empty shape sized))

same_page : (pages : List Page) (number : ℕ) (page : Page) → number < length pages → page ≡ slice_index_or pages number page → page ≡ slice_index_or pages number kind.Blank
same_page pages number page below is = is ∙ get_or_default pages number page kind.Blank below

module _ (size : ℕ) (pages : List Page) (fits : AreNewPages size pages) (before now after : Option (List ℕ)) where
  stands_there : (number : ℕ) (page : Page) → page ≡ slice_index_or pages number kind.Blank → stands_under number page ≡ true
  stands_there number page is = ap (stands_under number) is ∙ fits.stands number

  -- The write of the next page.
  pub holds_next : (number : ℕ) (page : Page) → 1 ≤ number → number < length pages → page ≡ slice_index_or pages number page → HoldsIfEmpty (ShowsWritten size pages (number - 1)) before now → IsPagePut size number page now after → HoldsIfEmpty (ShowsWritten size pages (number + 1 - 1)) before after
  holds_next number page from below is holds put =
      let e : suc (number - 1) ≡ number = omega arith in
      let e' : suc (number - 1) ≡ number + 1 - 1 = omega arith in
      let there = same_page pages number page below is in
      let place : number ≡ page_of_write (length pages) (suc (number - 1)) = sym (ap (page_of_write (length pages)) e ∙ middle_write (length pages) number below) in
      rw e' at (holds_more size pages (number - 1) number page before now after place there (stands_there number page there) holds put)

  -- The write of page 0, behind all others.
  pub holds_last : (number : ℕ) (page : Page) → number ≡ length pages → page ≡ slice_index_or pages 0 page → HoldsIfEmpty (ShowsWritten size pages (number - 1)) before now → IsPagePut size 0 page now after → HoldsIfEmpty (ShowsWritten size pages (length pages)) before after
  holds_last number page end is holds put =
      let some : 1 ≤ length pages = fits.some in
      let e : suc (number - 1) ≡ length pages = omega arith in
      let there = same_page pages 0 page (omega arith) is in
      let place : 0 ≡ page_of_write (length pages) (suc (number - 1)) = sym (last_write (length pages) (suc (number - 1)) e) in
      rw e at (holds_more size pages (number - 1) 0 page before now after place there (stands_there 0 page there) holds put)

-- After some of the writes.
pub holds_some : (size : ℕ) (pages : List Page) (count : ℕ) (before now : Option (List ℕ)) → count ≤ length pages → HoldsIfEmpty (ShowsWritten size pages count) before now → HoldsIfEmpty (ShowsSome size pages) before now
holds_some size pages count None now within holds = holds
holds_some size pages count (Some bytes) None within holds = holds
holds_some size pages count (Some bytes) (Some now) within holds = λ empty. record { count = count; within = within; shows = holds empty }

module _ (size : ℕ) (pages : List Page) (fits : AreNewPages size pages) (before now after : Option (List ℕ)) where
  -- The write of the next page, or no write.
  pub some_next : (number : ℕ) (page : Page) → 1 ≤ number → number < length pages → page ≡ slice_index_or pages number page → HoldsIfEmpty (ShowsWritten size pages (number - 1)) before now → IsPagePutOrNot size number page now after → HoldsIfEmpty (ShowsSome size pages) before after
  some_next number page from below is holds (inl stays) = rw (sym stays) at (holds_some size pages (number - 1) before now (omega arith) holds)
  some_next number page from below is holds (inr put) = holds_some size pages (number + 1 - 1) before after (omega arith) (holds_next size pages fits before now after number page from below is holds put)

  pub some_last : (number : ℕ) (page : Page) → number ≡ length pages → page ≡ slice_index_or pages 0 page → HoldsIfEmpty (ShowsWritten size pages (number - 1)) before now → IsPagePutOrNot size 0 page now after → HoldsIfEmpty (ShowsSome size pages) before after
  some_last number page end is holds (inl stays) = rw (sym stays) at (holds_some size pages (number - 1) before now (omega arith) holds)
  some_last number page end is holds (inr put) = holds_some size pages (length pages) before after (omega arith) (holds_last size pages fits before now after number page end is holds put)

-- What follows where a call succeeded.
pub on_ok : {T E P Q : Type 0} (result : Result T E) → (P → Q) → OnOk result P → OnOk result Q
on_ok (Ok x) follows is = follows is
on_ok (Err e) follows is = tt

module _ (size : ℕ) (relations : List NewRelation) (pages : List Page) (are : AreNewRelations relations) (all : pages ≡ new_pages size relations) where
  count_is : length pages ≡ page_count relations
  count_is = ap length all ∙ length-new_pages size relations

  -- All writes make the new file.
  pub holds_new : (before now : Option (List ℕ)) → HoldsIfEmpty (ShowsWritten size pages (length pages)) before now → HoldsIfEmpty (IsNewFile size relations) before now
  holds_new None now holds = holds
  holds_new (Some bytes) None holds = holds
  holds_new (Some bytes) (Some now) holds = λ empty.
      let long : length pages ≡ suc (2 + length relations) = omega (arith, count_is) in
      rw (written_pages-all pages (2 + length relations) long, all) at (holds empty (new_shape size relations) refl)

  -- Some of them a part of it.
  pub holds_part : (before now : Option (List ℕ)) → HoldsIfEmpty (ShowsSome size pages) before now → HoldsIfEmpty (IsPartOfNewFile size relations) before now
  holds_part None now holds = holds
  holds_part (Some bytes) None holds = holds
  holds_part (Some bytes) (Some now) holds = λ empty.
      let some = holds empty in
      record {
        count = some.count;
        within = omega (arith, some.within, count_is);
        shows = subst (λ (ps : List Page). ShowsPages (new_shape size relations) (written_pages ps some.count) now) all (some.shows (new_shape size relations) refl);
      }
