-- What another owner does leaves the fit.
use Rattle.std.proofs.Common.{◌≡◌, ◌≢◌, ◌∙◌, ℕ, true, ◌==◌, ◌∷◌, sym, ap, arith}
use Rattle.std.specs.List.{find}
use Rattle.fbc_kinds.specs.declared.shapes.Shape.{Shape}
use Rattle.fbc_kinds.specs.View.{View}
use Rattle.fbc_levels.specs.declared.resources.Request.{Request}
use Rattle.fbc_levels.specs.declared.resources.Resource.{Resource}
use Rattle.fbc_levels.specs.LockState.{LockState, is_of, request_of}
use Rattle.fbc_world.specs.Frames.{requests_of}
use Rattle.fbc_world.specs.History.{History, Moment}
use Rattle.fbc_world.specs.Holdings.{Holdings, holdings_of}
use Rattle.fbc_levels.specs.Resources.{page_resource}
use Rattle.fbc_world.specs.Owners.{is_alive}
use Rattle.fbc_world.specs.World.{World, world_of}
use Rattle.fbc_world.proofs.FirstOf.{find-kept}
use Rattle.fbc_world.proofs.WorldLaws.{IsReplayed-world}
use Rattle.fbc_legal.specs.Legal.{IsLegal}
use Rattle.fbc_legal.proofs.Frame.{holdings_left, requests_left}
use Rattle.fbc_cache.specs.Cache.{CacheState}
use Rattle.fbc_fit.specs.Fit.{Fits}
use Rattle.fbc_fit.proofs.SamePages.{HasSamePages, fits-same}

-- An owner's own requests tell which is found.
pub own-request : (s : LockState) (owner : ℕ) (resource : Resource) → find (is_of owner resource) (requests_of s owner) ≡ request_of s owner resource
own-request s owner resource = find-kept (is_of owner resource) (λ (r : Request). r.owner == owner) (λ x is. grind (arith, is)) s.requests

same-holdings : (w v : World) (owner : ℕ) → holdings_of v owner ≡ holdings_of w owner → ((resource : Resource) → request_of v.locks owner resource ≡ request_of w.locks owner resource) → HasSamePages owner w v
same-holdings w v owner same asked = record {
  granted = λ page. ap (λ (h : Holdings). h.level page) same;
  requests = record { asked = λ page. asked (page_resource page); count = ap (λ (h : Holdings). h.count) same };
  copy = λ page. ap (λ (h : Holdings). h.copy page) same;
  draft = λ page. ap (λ (h : Holdings). h.is_draft page) same;
  pin = λ page. ap (λ (h : Holdings). h.is_pinned page) same;
  pair = λ high low. ap (λ (h : Holdings). h.has_pair high low) same;
  room = ap (λ (h : Holdings). h.buffers) same;
}

pub fits-left : (shape : Shape) (file : View) (history : History) (moment : Moment) (owner : ℕ) (c : CacheState) → IsLegal shape file (moment ∷ history) → is_alive history owner ≡ true → moment.event.actor ≢ owner
    → Fits shape (world_of shape file history) owner c → Fits shape (world_of shape file (moment ∷ history)) owner c
fits-left shape file history moment owner c legal lives apart =
    fits-same shape owner (world_of shape file history) (world_of shape file (moment ∷ history)) c
    (same-holdings (world_of shape file history) (world_of shape file (moment ∷ history)) owner (holdings_left shape file history moment owner legal lives apart) asked) where
      own : requests_of (world_of shape file (moment ∷ history)).locks owner ≡ requests_of (world_of shape file history).locks owner
      own =
          ap (λ (s : LockState). requests_of s owner) (IsReplayed-world shape file (moment ∷ history)).locks_is
          ∙ requests_left shape file history moment owner legal lives apart
          ∙ ap (λ (s : LockState). requests_of s owner) (sym (IsReplayed-world shape file history).locks_is)

      asked : (resource : Resource) → request_of (world_of shape file (moment ∷ history)).locks owner resource ≡ request_of (world_of shape file history).locks owner resource
      asked resource =
          sym (own-request (world_of shape file (moment ∷ history)).locks owner resource)
          ∙ ap (find (is_of owner resource)) own
          ∙ own-request (world_of shape file history).locks owner resource
