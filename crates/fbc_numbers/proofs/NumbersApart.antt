-- Open transactions of different owners have different numbers: after every act but a failed write.
use Rattle.std.proofs.Common.{◌≡◌, ◌≢◌, ◌∙◌, ◌⊎◌, ℕ, Bool, true, false, Some, None, inl, inr, refl, sym, ap, arith}
use Rattle.fbc_kinds.specs.declared.edits.Edit.{Edit}
use Rattle.fbc_kinds.specs.declared.pages.Page.{Page}
use Rattle.fbc_kinds.specs.declared.snapshots.Transaction.{Transaction}
use Rattle.fbc_world.specs.declared.events.Act.{Act}
use Rattle.fbc_levels.specs.Resources.{page_resource}
use Rattle.fbc_world.specs.World.{World, acted, with_edit}
use Rattle.fbc_legal.specs.Coherent.{IsCoherent}
use Rattle.fbc_levels.specs.Levels.{is_page_level}
use Rattle.fbc_legal.specs.Guards.{Guard}
use Rattle.fbc_legal.specs.Legal.{MayAct}
use Rattle.fbc_legal.specs.Scene.{Scene}
use Rattle.fbc_legal.proofs.Exclusion.{excluded, is_plain}
use Rattle.fbc_closed_cuts.specs.Views.{is_edit}
use Rattle.fbc_numbers.specs.Numbers.{IsRaised, IsUnraised, NumbersDiffer, OpenNumbersStand}
use Rattle.fbc_numbers.proofs.CutFacts.{clash}
use Rattle.fbc_numbers.proofs.Opens.{Begins, WasOpen, open-acted, open-edited}

module _ (at : Scene) (h : IsCoherent at.world) (stand : OpenNumbersStand at.world) (differ : NumbersDiffer at.world) (owner : ℕ) where
  abbrev w : World
  w = at.world

  -- A number that begins is no other open one.
  new-differs : (after : World) (first other : ℕ) (t u : Transaction) → Begins at after owner first t → first ≢ other → w.transaction other ≡ Some u → t.number ≢ u.number
  new-differs after first other t u begins apart is = go (stand other u is).begun where
    number_is : t.number ≡ begins.number
    number_is = ap (λ (v : Transaction). v.number) begins.is

    go : IsRaised w other u.number ⊎ IsUnraised w other u.number → t.number ≢ u.number
    go (inl raised) same = absurd (grind (arith, raised.newest, begins.may.next, number_is, same))
    go (inr next) same =
        absurd (clash (is_page_level (w.granted other (page_resource 0))) (rw next.exclusive refl) (excluded w h owner other (page_resource 0) (λ is. apart (begins.same ∙ is)) begins.may.exclusive))

  pub differ-acted : (act : Act) (landed : Bool) → MayAct at owner act → Guard at owner act → is_plain act ≡ true → is_edit act ≡ false → NumbersDiffer (acted at.shape w owner act landed)
  differ-acted act landed may g plain no_edit first other t u apart is also =
      go (open-acted at owner act landed may g plain no_edit first t is) (open-acted at owner act landed may g plain no_edit other u also) where
        go : WasOpen w (acted at.shape w owner act landed) first t ⊎ Begins at (acted at.shape w owner act landed) owner first t → WasOpen w (acted at.shape w owner act landed) other u ⊎ Begins at (acted at.shape w owner act landed) owner other u → t.number ≢ u.number
        go (inl was) (inl before) = differ first other t u apart was.was before.was
        go (inl was) (inr begins) = λ same. new-differs (acted at.shape w owner act landed) other first u t begins (λ e. apart (sym e)) was.was (sym same)
        go (inr begins) (inl was) = new-differs (acted at.shape w owner act landed) first other t u begins apart was.was
        go (inr begins) (inr also_begins) = absurd (apart (begins.same ∙ sym also_begins.same))

-- An edit begins nothing.
pub differ-edited : (w : World) (owner page : ℕ) (e : Edit) (content : Page) → w.marked owner ≡ None → NumbersDiffer w → NumbersDiffer (with_edit w owner page e (Some content))
differ-edited w owner page e content unmarked differ first other t u apart is also =
    differ first other t u apart (open-edited w owner page e content unmarked first t is) (open-edited w owner page e content unmarked other u also)
