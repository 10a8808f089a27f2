-- The buffer of a pinned page through a change of the buffers.
use Rattle.std.proofs.Common.{◌≡◌, ◌∙◌, ℕ, Bool, true, false, ◌==◌, cond, List, [], ◌∷◌, ◌++◌, map, Option, Some, None, IfSome, is_some, ap, refl, subst, sym, arith}
use Rattle.std.proofs.lemmas.Bool.Decides.{nat_tests}
use Rattle.std.specs.List.{filter}
use Rattle.std.specs.Option.{option_map, option_map_or, option_or}
use Rattle.fbc_kinds.specs.declared.pages.Page.{Page}
use Rattle.fbc_levels.specs.declared.levels.Level.{Level}
use Rattle.fbc_buffers.specs.declared.buffers.Buffer.{Buffer}
use Rattle.fbc_buffers.specs.Holding.{KeepsPage, buffer_of, granted_wait, is_of, with_blocking, with_copy, with_dirt, with_level, without}
use Rattle.fbc_buffers.proofs.Found.{buffer_of-append, buffer_of-map, buffer_of-page, buffer_of-without}
use Rattle.fbc_cache.specs.Wants.{is_idle, is_unread}

-- What is found is pinned, in the same level and with the same copy.
pub record IsPinnedAs (b : Buffer) (found : Option Buffer) : Type 0 where
  pub buffer : Buffer
  pub is : found ≡ Some buffer
  pub pinned : buffer.is_pinned ≡ true
  pub level : buffer.level ≡ b.level
  pub copy : is_some b.copy ≡ true → buffer.copy ≡ b.copy

-- A change of a buffer that leaves that.
pub record LeavesPin (b after : Buffer) : Type 0 where
  pub pinned : after.is_pinned ≡ true
  pub level : after.level ≡ b.level
  pub copy : is_some b.copy ≡ true → after.copy ≡ b.copy

kept-by : (p : Buffer → Bool) (held : List Buffer) (page : ℕ) (b : Buffer) → buffer_of held page ≡ Some b → p b ≡ true → buffer_of (filter p held) page ≡ Some b
kept-by p [] page b found passes = absurd (cc)
kept-by p (a ∷ rest) page b found passes = go (is_of page a) refl (p a) refl found (kept-by p rest page b) where
  go : (t : Bool) → is_of page a ≡ t → (u : Bool) → p a ≡ u → cond t (Some a) (buffer_of rest page) ≡ Some b → (buffer_of rest page ≡ Some b → p b ≡ true → buffer_of (filter p rest) page ≡ Some b) → buffer_of (cond u (a ∷ filter p rest) (filter p rest)) page ≡ Some b
  go true of true keeps found later = rw of found
  go true of false drops found later = let same : a ≡ b = cc in let no : false ≡ true = sym drops ∙ subst (λ x. p x ≡ true) (sym same) passes in absurd (cc)
  go false other true keeps found later = rw other (later found passes)
  go false other false drops found later = later found passes

module _ (held : List Buffer) (page : ℕ) (b : Buffer) (found : buffer_of held page ≡ Some b) (pinned : b.is_pinned ≡ true) where
  pub same : IsPinnedAs b (buffer_of held page)
  same = record { buffer = b; is = found; pinned = pinned; level = refl; copy = λ some. refl }

  pub mapped : (f : Buffer → Buffer) → KeepsPage f → LeavesPin b (f b) → IsPinnedAs b (buffer_of (map f held) page)
  mapped f keeps leaves = record { buffer = f b; is = buffer_of-map f keeps held page ∙ ap (option_map f) found; pinned = leaves.pinned; level = leaves.level; copy = leaves.copy }

  pub pushed : (new : Buffer) → IsPinnedAs b (buffer_of (held ++ new ∷ []) page)
  pushed new = record { buffer = b; is = buffer_of-append held (new ∷ []) page ∙ ap (λ first. option_or first (buffer_of (new ∷ []) page)) found; pinned = pinned; level = refl; copy = λ some. refl }

  pub filtered : (p : Buffer → Bool) → p b ≡ true → IsPinnedAs b (buffer_of (filter p held) page)
  filtered p passes = record { buffer = b; is = kept-by p held page b found passes; pinned = pinned; level = refl; copy = λ some. refl }

  of-page : b.page ≡ page
  of-page = go (buffer_of held page) found (buffer_of-page held page) where
    go : (at : Option Buffer) → at ≡ Some b → IfSome at (λ x. x.page ≡ page) → b.page ≡ page
    go None none is = absurd (cc)
    go (Some x) same is = let equal : x ≡ b = cc in subst (λ y. y.page ≡ page) equal is

  -- A page of which the buffer is not so is another one.
  pub other-page : (q : Buffer → Bool) (other : ℕ) → q b ≡ false → option_map_or q (buffer_of held other) false ≡ true → (other == page) ≡ false
  other-page q other not_so so = go (other == page) refl where
    go : (t : Bool) → (other == page) ≡ t → t ≡ false
    go true equal =
        let at : other ≡ page = grind (arith, nat_tests, equal) in
        let here : option_map_or q (buffer_of held page) false ≡ true = subst (λ p. option_map_or q (buffer_of held p) false ≡ true) at so in
        let is : q b ≡ true = rw found at here in
        absurd (let no : false ≡ true = sym not_so ∙ is in cc)
    go false differs = refl

  pub not-idle : is_idle b ≡ false
  not-idle = grind (arith, pinned)

  pub given-up : (other : ℕ) → (other == page) ≡ false → IsPinnedAs b (buffer_of (without other held) page)
  given-up other differs = record { buffer = b; is = buffer_of-without other held page ∙ rw differs found; pinned = pinned; level = refl; copy = λ some. refl }

  pub lowered : (other : ℕ) (level : Level) → (other == page) ≡ false → IsPinnedAs b (buffer_of (map (with_blocking other false) (map (with_level other level) held)) page)
  lowered other level differs = record {
    buffer = b;
    is = buffer_of-map (with_blocking other false) (λ x. grind (arith)) (map (with_level other level) held) page
        ∙ ap (option_map (with_blocking other false)) (buffer_of-map (with_level other level) (λ x. grind (arith)) held page ∙ ap (option_map (with_level other level)) found)
        ∙ grind (arith, nat_tests, differs, of-page);
    pinned = pinned;
    level = refl;
    copy = λ some. refl;
  }

  pub granted : b.wanted ≡ None → IsPinnedAs b (buffer_of (map granted_wait held) page)
  granted none = mapped granted_wait (λ x. refl) (record { pinned = pinned; level = rw none refl; copy = λ some. refl })

  pub written : (other : ℕ) → IsPinnedAs b (buffer_of (map (with_dirt other false) held) page)
  written other = mapped (with_dirt other false) (λ x. grind (arith)) (record { pinned = grind (arith, pinned); level = grind (arith); copy = λ some. grind (arith) })

  pub read : (other : ℕ) (shown : Option Page) → option_map_or is_unread (buffer_of held other) false ≡ true → IsPinnedAs b (buffer_of (map (with_copy other shown) held) page)
  read other shown unread = mapped (with_copy other shown) (λ x. grind (arith)) (record { pinned = grind (arith, pinned); level = grind (arith); copy = copy }) where
    copy : is_some b.copy ≡ true → (with_copy other shown b).copy ≡ b.copy
    copy some =
        let has : is_unread b ≡ false = grind (arith, some) in
        let differs : (other == page) ≡ false = other-page is_unread other has unread in
        grind (arith, nat_tests, differs, of-page)
