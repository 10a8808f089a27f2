-- Of each good link of a chain, the links below its version are links of the chain.
use Rattle.std.proofs.Common.{◌≡◌, ℕ, zero, suc, ◌<◌, ◌==◌, Bool, true, false, if◌then◌else◌, List, [], ◌∷◌, ◌++◌, length, Option, Some, None, ◌⊎◌, inl, inr, refl, sym, subst, ◌∙◌, arith, Contains, slice_index_or}
use Rattle.std.specs.Option.{option_map}
use Rattle.fbc_kinds.specs.declared.pages.Cell.{Cell}
use Rattle.fbc_kinds.specs.View.{View, cell_at}
use Rattle.fbc_links.specs.Following.{IsClosed, bare, links_below}
use Rattle.fbc_reach.specs.Content.{version_kept}
use Rattle.fbc_links.specs.Links.{Link, is_back_value, link_of, links_from}
use Rattle.fbc_reach.specs.Walk.{relation_walked}
use Rattle.fbc_reach.specs.declared.content.Version.{Version}
use Rattle.fbc_links.proofs.ChainLinks.{IsAbove, same_links, value_cell, value_relation}
use Rattle.fbc_reach.proofs.Members.{In, in_either, in_left, in_right}

-- An item of a list stands at one of its places.
module _ {X : Type 0} where
  pub in_from : (xs : List X) (x : X) → Contains xs x → In xs x
  in_from xs x (k, below, is) = go xs k below is
    where
      go : (xs : List X) (k : ℕ) → k < length xs → slice_index_or xs k x ≡ x → In xs x
      go [] k below is = absurd (omega arith)
      go (y ∷ ys) zero below is = inl is
      go (y ∷ ys) (suc k) below is = inr (go ys k (omega arith) is)

  pub from_in : (xs : List X) (x : X) → In xs x → Contains xs x
  from_in [] x i = absurd i
  from_in (y ∷ ys) x (inl e) = (0, (let below : 0 < suc (length ys) = omega arith in below), e)
  from_in (y ∷ ys) x (inr i) =
      let found = from_in ys x i in
      (suc found.0, (let below : suc found.0 < suc (length ys) = omega (arith, found.1) in below), found.2)

-- A good link, and a link below the version that it names.
pub record IsBelow (view : View) (link : Link) (relation : ℕ) (back : Version) (lower : Link) : Type 0 where
  pub good : link.good ≡ true
  pub relation_is : relation_walked view link.back_page ≡ Some relation
  pub stands : option_map version_kept (cell_at view link.back_page link.back_cell) ≡ Some back
  pub below : In (links_below view relation link.back_page link.back_cell back) lower

-- All links below the versions of a number below this one that good ones of these links name are among them.
abbrev pub IsClosedBelow : View → ℕ → List Link → Type 0
IsClosedBelow view n all =
    (link : Link) (relation : ℕ) (back : Version) (lower : Link) → In all link → back.number < n → IsBelow view link relation back lower → In all lower

pub closed_below : (view : View) (all : List Link) → IsClosed view all → (n : ℕ) → IsClosedBelow view n all
closed_below view all closed n link relation back lower member number is =
    in_from all lower
    (closed link relation back (from_in all link member) is.good is.relation_is is.stands lower
    (from_in (links_below view relation link.back_page link.back_cell back) lower is.below))

pub closed_from : (view : View) (all : List Link) → ((n : ℕ) → IsClosedBelow view n all) → IsClosed view all
closed_from view all closed link relation back contains good is stands lower under =
    from_in all lower
    (closed (suc back.number) link relation back lower (in_from all link contains) (omega arith)
    (record { good = good; relation_is = is; stands = stands; below = in_from (links_below view relation link.back_page link.back_cell back) lower under }))

module _ (view : View) (relation : ℕ) where
  abbrev tail_of : ℕ → Cell → List Link
  tail_of count version =
      if is_back_value view relation version.number version.back_page version.back_cell
      then links_from view relation count version.back_page version.back_cell (cell_at view version.back_page version.back_cell)
      else []

  value_below : (count page cell : ℕ) (o : Option Cell) (back : Version) (lower : Link) → IsAbove count o → option_map version_kept o ≡ Some back
      → In (links_below view relation page cell back) lower → In (links_from view relation count page cell o) lower
  value_below count page cell None back lower above stands i = cc
  value_below count page cell (Some w) back lower above stands i =
      let same : back ≡ version_kept w = cc in
      let P : Version → Type 0 = λ v. In (links_below view relation page cell v) lower in
      let Q : List Link → Type 0 = λ links. In links lower in
      let enough : w.number < suc w.number = omega arith in
      subst Q (same_links view relation (suc w.number) count page cell (Some w) enough above) (subst P same i)

  own_below : (count page cell : ℕ) (version : Cell) (other : ℕ) (back : Version) (lower : Link) → version.number < suc count
      → IsBelow view (link_of view relation page cell version) other back lower → In (tail_of count version) lower
  own_below count page cell version other back lower enough is =
      let same : other ≡ relation =
      (let both : Some other ≡ Some relation = sym is.relation_is ∙ value_relation view relation version.number version.back_page version.back_cell is.good in cc)
      in
      let P : ℕ → Type 0 = λ r. In (links_below view r version.back_page version.back_cell back) lower in
      rw is.good
      (value_below count version.back_page version.back_cell (cell_at view version.back_page version.back_cell) back lower
      (value_cell view relation count version.number version.back_page version.back_cell enough is.good) is.stands (subst P same is.below))

  pub chain_closed : (count page cell : ℕ) (o : Option Cell) → IsAbove count o → (link : Link) (other : ℕ) (back : Version) (lower : Link)
      → In (links_from view relation count page cell o) link → IsBelow view link other back lower → In (links_from view relation count page cell o) lower
  chain_closed zero page cell o above link other back lower member is = absurd member
  chain_closed (suc count) page cell None above link other back lower member is = absurd member
  chain_closed (suc count) page cell (Some version) above link other back lower member is =
      go (version.back_page == 0) member
      (chain_closed count version.back_page version.back_cell (cell_at view version.back_page version.back_cell))
    where
      below : (good : Bool) → is_back_value view relation version.number version.back_page version.back_cell ≡ good
          → In (if good then links_from view relation count version.back_page version.back_cell (cell_at view version.back_page version.back_cell) else []) link
          → (IsAbove count (cell_at view version.back_page version.back_cell) → (link : Link) (other : ℕ) (back : Version) (lower : Link)
          → In (links_from view relation count version.back_page version.back_cell (cell_at view version.back_page version.back_cell)) link → IsBelow view link other back lower
          → In (links_from view relation count version.back_page version.back_cell (cell_at view version.back_page version.back_cell)) lower)
          → In (if good then links_from view relation count version.back_page version.back_cell (cell_at view version.back_page version.back_cell) else []) lower
      below true good i later = later (value_cell view relation count version.number version.back_page version.back_cell above good) link other back lower i is
      below false bad i later = absurd i

      go : (none : Bool) → In (if none then [] else link_of view relation page cell version ∷ tail_of count version) link
          → (IsAbove count (cell_at view version.back_page version.back_cell) → (link : Link) (other : ℕ) (back : Version) (lower : Link)
          → In (links_from view relation count version.back_page version.back_cell (cell_at view version.back_page version.back_cell)) link → IsBelow view link other back lower
          → In (links_from view relation count version.back_page version.back_cell (cell_at view version.back_page version.back_cell)) lower)
          → In (if none then [] else link_of view relation page cell version ∷ tail_of count version) lower
      go true i later = absurd i
      go false (inl own) later =
          let P : Link → Type 0 = λ l. IsBelow view l other back lower in
          inr (own_below count page cell version other back lower above (subst P (sym own) is))
      go false (inr i) later = inr (below (is_back_value view relation version.number version.back_page version.back_cell) refl i later)

-- Links that are closed stay so with those of a chain behind them, and with those of several.
abbrev pub IsSelfClosed : View → List Link → Type 0
IsSelfClosed view more = (link : Link) (relation : ℕ) (back : Version) (lower : Link) → In more link → IsBelow view link relation back lower → In more lower

pub closed_more : (view : View) (all more : List Link) → IsClosed view all → IsSelfClosed view more → IsClosed view (all ++ more)
closed_more view all more closed own = closed_from view (all ++ more) (λ n link relation back lower member number is. go n link relation back lower number is (in_either all more link member))
  where
    go : (n : ℕ) (link : Link) (relation : ℕ) (back : Version) (lower : Link) → back.number < n → IsBelow view link relation back lower → In all link ⊎ In more link → In (all ++ more) lower
    go n link relation back lower number is (inl i) = in_left all more lower (closed_below view all closed n link relation back lower i number is)
    go n link relation back lower number is (inr i) = in_right all more lower (own link relation back lower i is)

pub chain_self_closed : (view : View) (relation page cell : ℕ) (version : Version) → IsSelfClosed view (links_below view relation page cell version)
chain_self_closed view relation page cell version link other back lower member is =
    let enough : version.number < suc version.number = omega arith in
    chain_closed view relation (suc version.number) page cell (Some (bare version)) enough link other back lower member is
