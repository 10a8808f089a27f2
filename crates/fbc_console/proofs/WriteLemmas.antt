-- What a device has after a write in a row of writes failed.
use Rattle.std.proofs.Common.{◌≡◌, ◌<◌, ◌+◌, ◌*◌, inl, inr, ℕ, List, ◌∷◌, Bool, true, false, length, take, slice_index_or, Option, Some, None, ap, ◌∙◌, sym, arith}
use Rattle.std.specs.Prelude.{reverse}
use Rattle.std.proofs.lemmas.Grind.{common_steps}
use Rattle.fbc_outside.specs.Bytes.{written, IsWritten}
use Rattle.fbc_outside.specs.Landings.{LandedOrNot}
use Rattle.fbc_console.specs.declared.writes.PageImage.{PageImage}
use Rattle.fbc_console.specs.Writes.{bytes_after, IsAfter, IsAfterSome, IsPutOrNot}

-- A failed write landed or did not.
pub IsPutOrNot-failed : (before now : Option (List ℕ)) (landings more : List Bool) (image : PageImage) → LandedOrNot before now landings more (image.page * 1024) image.bytes → IsPutOrNot before now image
IsPutOrNot-failed None now landings more image failed = failed
IsPutOrNot-failed (Some bytes) now landings more image (true, _, landed) = inr landed
IsPutOrNot-failed (Some bytes) now landings more image (false, _, stayed) = inl stayed

-- A write that took effect.
pub IsPutOrNot-done : (before now : Option (List ℕ)) (image : PageImage) → IsWritten before now (image.page * 1024) image.bytes → IsPutOrNot before now image
IsPutOrNot-done None now image is = is
IsPutOrNot-done (Some bytes) now image is = inr is

-- One write on.
bytes_after-next : (images : List PageImage) (image : PageImage) (i : ℕ) (bytes : List ℕ) → i < length images → bytes_after (reverse (take (i + 1) images)) bytes ≡ bytes_after (slice_index_or images i image ∷ reverse (take i images)) bytes
bytes_after-next images image i bytes within =
    let e : reverse (take (i + 1) images) ≡ slice_index_or images i image ∷ reverse (take i images) = grind (arith, common_steps) in
    ap (λ done. bytes_after done bytes) e

-- The failed write landed, and so one write more took effect, or it did not.
pub IsAfterSome-failed : (before now after : Option (List ℕ)) (images : List PageImage) (i : ℕ) (image : PageImage) → i < length images → IsAfter before now (take i images) → IsPutOrNot now after (slice_index_or images i image) → IsAfterSome before after images
IsAfterSome-failed None None after images i image within is failed = record { count = i; within = omega (arith, within); after = failed }
IsAfterSome-failed None (Some now) after images i image within is failed = let no : ⊥ = cc in absurd no
IsAfterSome-failed (Some bytes) None after images i image within is failed = let no : ⊥ = cc in absurd no
IsAfterSome-failed (Some bytes) (Some now) after images i image within is (inl stayed) = record { count = i; within = omega (arith, within); after = stayed ∙ is }
IsAfterSome-failed (Some bytes) (Some now) after images i image within is (inr landed) =
    let same : now ≡ bytes_after (reverse (take i images)) bytes = cc in
    record {
      count = i + 1;
      within = omega (arith, within);
      after = landed ∙ ap (λ b. Some (written ((slice_index_or images i image).page * 1024) (slice_index_or images i image).bytes b)) same ∙ ap Some (sym (bytes_after-next images image i bytes within));
    }
