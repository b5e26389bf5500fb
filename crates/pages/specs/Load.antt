-- Loading: all pages of a reader copied into a store of the same size. Assumes nothing.
use Rattle.std.specs.Prelude.{◌≡◌, ℕ, List, [], ◌∷◌, length, Some, None, Ok, Err, Result, ◌≢◌}
use Rattle.pages.specs.Pages.{Chain, numbered}
use Rattle.pages.specs.Image.{image_fault, image_pages, image_cause, image_returned}
use Rattle.pages.specs.declared.fault.LoadFault.{LoadFault}
use Rattle.pages.specs.declared.fault.LoadFault.TheVariants.{Sizes}
use Rattle.pages.specs.declared.fault.ImageLoadFault.{ImageLoadFault}
use Rattle.pages.specs.declared.fault.ImageLoadFault.TheVariants.{Unread, Unloaded}

-- a refused load has number 13 and returns the reader's size, then the store's
abbrev pub load_cause : LoadFault → ℕ
load_cause f = 13

abbrev pub load_returned : LoadFault → List ℕ
load_returned (Sizes reader store) = reader ∷ store ∷ []

-- the load of an image's bytes is refused as the image is, or as its load is
abbrev pub image_load_cause : ImageLoadFault → ℕ
image_load_cause (Unread f) = image_cause f
image_load_cause (Unloaded f) = load_cause f

abbrev pub image_load_returned : ImageLoadFault → List ℕ
image_load_returned (Unread f) = image_returned f
image_load_returned (Unloaded f) = load_returned f

module _ {S : Type 0} (pages : S → List ℕ) (wrote : S → ℕ → ℕ → S → Type 0) where
  -- a load of these words took the store s to t and answered r: over equal sizes the store has the pages, put in rising
  -- order; else it is as it was
  pub record Loaded (words : List ℕ) (s : S) (r : Result (Unit {0}) LoadFault) (t : S) : Type 0 where
    pub equal : length words ≡ length (pages s) → (r ≡ Ok tt) × (pages t ≡ words) × Chain wrote s (numbered 0 words) t
    pub unequal : (length words ≢ length (pages s)) → (r ≡ Err (Sizes (length words) (length (pages s)))) × (t ≡ s)

  -- a load of an image's bytes
  abbrev pub ImageLoaded : List ℕ → S → Result (Unit {0}) ImageLoadFault → S → Type 0
  ImageLoaded bs s (Ok x) t = (image_fault bs ≡ None) × Loaded (image_pages bs) s (Ok x) t
  ImageLoaded bs s (Err (Unread f)) t = (image_fault bs ≡ Some f) × (t ≡ s)
  ImageLoaded bs s (Err (Unloaded f)) t = (image_fault bs ≡ None) × Loaded (image_pages bs) s (Err f) t
