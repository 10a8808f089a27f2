-- When the steps of the examples are legal. What a step wants of the world before it is one equation that computes.
use Rattle.std.proofs.Common.{◌≡◌, ◌<◌, ◌==◌, ℕ, Bool, true, false, Option, ◌∷◌, Some, None, inr, refl, ap, arith}
use Rattle.std.specs.Prelude.{◌≢◌, is_some}
use Rattle.std.proofs.lemmas.Bool.{ne_eqb}
use Rattle.fbc_kinds.specs.declared.edits.Edit.{Edit}
use Rattle.fbc_kinds.specs.declared.pages.Page.{Page}
use Rattle.fbc_kinds.specs.Edits.{IsEdit}
use Rattle.fbc_kinds.specs.View.{View}
use Rattle.fbc_levels.specs.declared.levels.Level.{Level}
use Rattle.fbc_levels.specs.declared.levels.Level.TheVariants.{Ex}
use Rattle.fbc_levels.specs.declared.resources.Request.{Request}
use Rattle.fbc_levels.specs.declared.resources.Resource.{Resource}
use Rattle.fbc_levels.specs.Levels.{is_compatible}
use Rattle.fbc_levels.specs.LockState.{request_of, wait_of}
use Rattle.fbc_lock_table.specs.declared.answers.Asked.{Asked}
use Rattle.fbc_lock_table.specs.declared.answers.Asked.TheVariants.{Dead, Granted, Queued}
use Rattle.fbc_lock_table.specs.Answers.{answer_to_ask}
use Rattle.fbc_world.specs.declared.asks.Cause.{Cause}
use Rattle.fbc_world.specs.declared.events.Act.TheVariants.{Ask, Local, Write}
use Rattle.fbc_world.specs.declared.events.LocalEvent.TheVariants as local
use Rattle.fbc_world.specs.History.{History, happens}
use Rattle.fbc_world.specs.Holdings.{holdings_of, is_draft_of}
use Rattle.fbc_levels.specs.Resources.{page_resource}
use Rattle.fbc_world.specs.Locks.{waiting_of}
use Rattle.fbc_world.specs.World.{page_after, world_of}
use Rattle.fbc_legal.specs.Causes.{MeetsCause}
use Rattle.fbc_legal.specs.Guards.{BeginsWell, GuardOfSeries, HasBase}
use Rattle.fbc_legal.specs.Leans.{LeansOn}
use Rattle.fbc_legal.specs.Legal.{ComesNext, IsLegal}
use Rattle.fbc_legal.specs.Naming.{IsNamedWhereEdited}
use Rattle.fbc_legal.specs.Rows.{IsEditOfRow}
use Rattle.fbc_legal.specs.Scene.{IsBefore, scene_of}
use Rattle.fbc_examples.specs.Files.{small_shape}
use Rattle.fbc_examples.specs.Steps.{asks, edits, edits_by, gets, holds, holds_by, orders, orders_by, with_owner}
use Rattle.fbc_examples.proofs.Nothing.{nothing_before}

-- What any example over a file begins with.
pub legal_owner : (file : View) → IsLegal small_shape file with_owner
legal_owner file = (
  (tt, record { alive = tt; follows = tt; guard = record { nobody = refl; none_alive = λ other. refl } }),
  record {
    alive = tt;
    follows = tt;
    guard = record { next = refl; few = omega arith; room = omega arith; name_from = omega arith; name_to = omega arith; fresh = λ other lives. absurd cc };
  },
)

not_queued : (answer : Asked) → answer ≡ Granted → answer ≡ Queued → ⊥
not_queued answer is isnt = cc

not_dead : (answer : Asked) (owner : ℕ) → answer ≡ Granted → answer ≡ Dead owner → ⊥
not_dead answer owner is isnt = cc

-- What an owner is that asks in EX, what that is answered, and what it waits for then.
pub record Asker : Type 0 where
  pub alive : Bool
  pub wait : Option Request
  pub answer : Asked
  pub wanted : Option Level

abbrev pub asker : View → History → ℕ → Resource → ℕ → Asker
asker file before owner resource word = record {
  alive = (world_of small_shape file before).is_alive owner;
  wait = wait_of (world_of small_shape file before).locks owner;
  answer = answer_to_ask (world_of small_shape file before).locks owner resource Ex true;
  wanted = waiting_of (world_of small_shape file (asks owner resource word before)).locks owner resource;
}

abbrev pub free_asker : Asker
free_asker = record { alive = true; wait = None; answer = Granted; wanted = Some Ex }

-- Nobody else has a level that conflicts with EX.
abbrev pub IsAlone : View → History → ℕ → Resource → Type 0
IsAlone file before owner resource = (other : ℕ) → (other == owner) ≡ false → is_compatible Ex ((world_of small_shape file before).granted other resource) ≡ true

pub legal_gets : (file : View) (before : History) (owner : ℕ) (resource : Resource) (word : ℕ) → IsLegal small_shape file before
    → ComesNext before (happens owner (Ask resource Ex true word) false)
    → asker file before owner resource word ≡ free_asker
    → GuardOfSeries (scene_of small_shape file before) owner resource.series resource.key Ex word
    → IsAlone file before owner resource
    → BeginsWell (scene_of small_shape file (asks owner resource word before)) owner resource Ex
    → IsLegal small_shape file (gets owner resource word before)
legal_gets file before owner resource word legal follows is guard alone begins = (
  (
    legal,
    record {
      alive = ap (λ (a : Asker). a.alive) is;
      follows = follows;
      guard = record {
        free = ap (λ (a : Asker). a.wait) is;
        asked = guard;
        upward = λ queued. absurd (not_queued (asker file before owner resource word).answer (ap (λ (a : Asker). a.answer) is) queued);
        no_dead = λ dead is_dead. not_dead (asker file before owner resource word).answer dead (ap (λ (a : Asker). a.answer) is) is_dead;
      };
    },
  ),
  record {
    alive = ap (λ (a : Asker). a.alive) is;
    follows = λ granted. record { actor = refl; act = refl };
    guard = record { wanted = ap (λ (a : Asker). a.wanted) is; beside = λ other apart. alone other (ne_eqb other owner apart); begins = begins };
  },
)

-- What an owner has on a page before it asks for it, and after it got it.
pub record Holder : Type 0 where
  pub request : Option Request
  pub copy : Option Page
  pub level : Level
  pub wait : Option Request

abbrev pub holder : View → History → ℕ → ℕ → Holder
holder file before owner page = record {
  request = request_of (world_of small_shape file before).locks owner (page_resource page);
  copy = (world_of small_shape file before).copy owner page;
  level = (world_of small_shape file (gets owner (page_resource page) 0 before)).granted owner (page_resource page);
  wait = wait_of (world_of small_shape file (gets owner (page_resource page) 0 before)).locks owner;
}

abbrev pub new_holder : Holder
new_holder = record { request = None; copy = None; level = Ex; wait = None }

pub legal_holds_by : (owner : ℕ) (file : View) (before : History) (page : ℕ) → IsLegal small_shape file before
    → ComesNext before (happens owner (Ask (page_resource page) Ex true 0) false)
    → asker file before owner (page_resource page) 0 ≡ free_asker
    → holder file before owner page ≡ new_holder
    → (holdings_of (world_of small_shape file before) owner).count < (holdings_of (world_of small_shape file before) owner).buffers
    → IsAlone file before owner (page_resource page)
    → IsLegal small_shape file (holds_by owner page before)
legal_holds_by owner file before page legal follows is has room alone = (
  (
    legal_gets file before owner (page_resource page) 0 legal follows is
        (record { fresh = ap (λ (h : Holder). h.request) has; room = room })
        alone
        (λ begins. absurd cc),
    record {
      alive = ap (λ (a : Asker). a.alive) is;
      follows = tt;
      guard = record { held = inr (ap (λ (h : Holder). h.level) has); none = ap (λ (h : Holder). h.copy) has };
    },
  ),
  record {
    alive = ap (λ (a : Asker). a.alive) is;
    follows = tt;
    guard = record { held = inr (ap (λ (h : Holder). h.level) has); free = ap (λ (h : Holder). h.wait) has };
  },
)

pub legal_holds : (file : View) (before : History) (page : ℕ) → IsLegal small_shape file before
    → ComesNext before (happens 1 (Ask (page_resource page) Ex true 0) false)
    → asker file before 1 (page_resource page) 0 ≡ free_asker
    → holder file before 1 page ≡ new_holder
    → (holdings_of (world_of small_shape file before) 1).count < (holdings_of (world_of small_shape file before) 1).buffers
    → IsAlone file before 1 (page_resource page)
    → IsLegal small_shape file (holds page before)
legal_holds = legal_holds_by 1

-- What an owner is that edits a page, and whether the edit fits.
pub record Editor : Type 0 where
  pub alive : Bool
  pub wait : Option Request
  pub marked : Option ℕ
  pub level : Level
  pub pinned : Bool
  pub fits : Bool

abbrev pub editor : View → History → ℕ → ℕ → Edit → Editor
editor file before owner page edit = record {
  alive = (world_of small_shape file before).is_alive owner;
  wait = wait_of (world_of small_shape file before).locks owner;
  marked = (world_of small_shape file before).marked owner;
  level = (world_of small_shape file before).granted owner (page_resource page);
  pinned = (world_of small_shape file before).is_pinned owner page;
  fits = is_some (page_after small_shape (world_of small_shape file before) owner page edit);
}

abbrev pub ready_editor : Editor
ready_editor = record { alive = true; wait = None; marked = None; level = Ex; pinned = true; fits = true }

pub legal_edits_by : (owner : ℕ) (file : View) (before : History) (page : ℕ) (edit : Edit) → IsLegal small_shape file before
    → ComesNext before (happens owner (Local (local.Edit page edit)) false)
    → editor file before owner page edit ≡ ready_editor
    → HasBase (scene_of small_shape file before) owner page edit
    → IsEdit edit
    → LeansOn (scene_of small_shape file before) owner page edit
    → IsNamedWhereEdited (scene_of small_shape file before) owner page edit
    → IsEditOfRow (scene_of small_shape file before) owner page edit
    → IsLegal small_shape file (edits_by owner page edit before)
legal_edits_by owner file before page edit legal follows is base numbers leans named row = (
  legal,
  record {
    alive = ap (λ (e : Editor). e.alive) is;
    follows = follows;
    guard = record {
      free = ap (λ (e : Editor). e.wait) is;
      unmarked = ap (λ (e : Editor). e.marked) is;
      exclusive = ap (λ (e : Editor). e.level) is;
      pinned = ap (λ (e : Editor). e.pinned) is;
      base = base;
      numbers = numbers;
      fits = ap (λ (e : Editor). e.fits) is;
      leans = leans;
      named = named;
      row = row;
    };
  },
)

pub legal_edits : (file : View) (before : History) (page : ℕ) (edit : Edit) → IsLegal small_shape file before
    → ComesNext before (happens 1 (Local (local.Edit page edit)) false)
    → editor file before 1 page edit ≡ ready_editor
    → HasBase (scene_of small_shape file before) 1 page edit
    → IsEdit edit
    → LeansOn (scene_of small_shape file before) 1 page edit
    → IsNamedWhereEdited (scene_of small_shape file before) 1 page edit
    → IsEditOfRow (scene_of small_shape file before) 1 page edit
    → IsLegal small_shape file (edits page edit before)
legal_edits = legal_edits_by 1

-- What an owner is that orders two pages.
pub record Orderer : Type 0 where
  pub alive : Bool
  pub wait : Option Request
  pub drafted : Bool
  pub level : Level

abbrev pub orderer : View → History → ℕ → ℕ → ℕ → Orderer
orderer file before owner high low = record {
  alive = (world_of small_shape file before).is_alive owner;
  wait = wait_of (world_of small_shape file before).locks owner;
  drafted = is_draft_of owner ((world_of small_shape file before).draft high);
  level = (world_of small_shape file before).granted owner (page_resource low);
}

abbrev pub ready_orderer : Orderer
ready_orderer = record { alive = true; wait = None; drafted = true; level = Ex }

pub legal_orders_by : (owner : ℕ) (file : View) (before : History) (high low : ℕ) → IsLegal small_shape file before
    → ComesNext before (happens owner (Local (local.Before high low)) false)
    → orderer file before owner high low ≡ ready_orderer
    → high ≢ low
    → ¬ IsBefore (scene_of small_shape file before) low high
    → IsLegal small_shape file (orders_by owner high low before)
legal_orders_by owner file before high low legal follows is apart order = (
  legal,
  record {
    alive = ap (λ (o : Orderer). o.alive) is;
    follows = follows;
    guard = record {
      free = ap (λ (o : Orderer). o.wait) is;
      apart = apart;
      drafted = ap (λ (o : Orderer). o.drafted) is;
      exclusive = ap (λ (o : Orderer). o.level) is;
      order = order;
    };
  },
)

pub legal_orders : (file : View) (before : History) (high low : ℕ) → IsLegal small_shape file before
    → ComesNext before (happens 1 (Local (local.Before high low)) false)
    → orderer file before 1 high low ≡ ready_orderer
    → high ≢ low
    → ¬ IsBefore (scene_of small_shape file before) low high
    → IsLegal small_shape file (orders high low before)
legal_orders = legal_orders_by 1

-- A write of an owner's draft before which no page is to be written.
pub legal_writes_by : (writer : ℕ) (file : View) (before : History) (page : ℕ) (reason : Cause) (failed landed : Bool) → IsLegal small_shape file before
    → ComesNext before (happens writer (Write page reason failed) landed)
    → (world_of small_shape file before).is_alive writer ≡ true
    → is_draft_of writer ((world_of small_shape file before).draft page) ≡ true
    → ((owner high : ℕ) → (world_of small_shape file before).has_pair owner high page ≡ false)
    → MeetsCause (scene_of small_shape file before) writer page reason
    → IsLegal small_shape file (happens writer (Write page reason failed) landed ∷ before)
legal_writes_by writer file before page reason failed landed legal follows alive drafted none cause = (
  legal,
  record {
    alive = alive;
    follows = follows;
    guard = record { drafted = drafted; first = λ high is. nothing_before (world_of small_shape file before) page none high; cause = cause };
  },
)

pub legal_writes : (file : View) (before : History) (page : ℕ) (reason : Cause) (failed landed : Bool) → IsLegal small_shape file before
    → ComesNext before (happens 1 (Write page reason failed) landed)
    → (world_of small_shape file before).is_alive 1 ≡ true
    → is_draft_of 1 ((world_of small_shape file before).draft page) ≡ true
    → ((owner high : ℕ) → (world_of small_shape file before).has_pair owner high page ≡ false)
    → MeetsCause (scene_of small_shape file before) 1 page reason
    → IsLegal small_shape file (happens 1 (Write page reason failed) landed ∷ before)
legal_writes = legal_writes_by 1
