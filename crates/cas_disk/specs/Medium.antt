-- What a disk in memory keeps of its writes: enough to say which contents a crash could leave at each moment so far.
use Rattle.std.specs.Prelude.{◌≡◌, ◌⊎◌, ℕ, ◌+◌, ◌-◌, ◌<◌, Bool, true, ◌&&◌, ◌||◌, ◌==◌, nat_le, List, [], ◌∷◌, ◌++◌, length, take, drop}
use Rattle.cas_disk.specs.Disk.{Torn}
use Rattle.cas_disk.specs.declared.medium.Write.{Write}
use Rattle.cas_disk.specs.declared.medium.Before.{Before}
use Rattle.cas_disk.specs.declared.medium.Before.TheVariants.{Undone, Same, Content}
use Rattle.cas_disk.specs.declared.medium.Epoch.{Epoch}

-- the content from before a write
abbrev pub undo : Write → List ℕ → List ℕ
undo w content = take w.at content ++ w.old.items ++ drop (w.at + w.len) content

-- the content from before these writes, the newest of them first
abbrev pub undone : List Write → List ℕ → List ℕ
undone [] content = content
undone (w ∷ writes) content = undone writes (undo w content)

-- the write can be undone in place: it lies within the content, and where it went past the old end it reaches the new one
abbrev pub fits : Write → List ℕ → Bool
fits w content = nat_le (w.at + w.len) (length content) && (length w.old.items == w.len || (nat_le (length w.old.items) w.len && w.at + w.len == length content))

-- each of the writes can be undone in its turn
abbrev pub all_fit : List Write → List ℕ → Bool
all_fit [] content = true
all_fit (w ∷ writes) content = fits w content && all_fit writes (undo w content)

-- a crash may leave this of a durable content and the writes since, the newest first: each of them whole, torn or not there
abbrev pub IsImage : List ℕ → List Write → List ℕ → Type 0
IsImage durable [] c = c ≡ durable
IsImage durable (w ∷ writes) c = (d : List ℕ) × IsImage durable writes d × Torn w.at w.len d c

-- the durable content at the start of an epoch, seen from the content at its end
abbrev pub started_with : Before → List Write → List ℕ → List ℕ
started_with Undone writes now = undone writes now
started_with Same writes now = now
started_with (Content v) writes now = v.items

-- the durable content at the start of these epochs, the oldest first, seen from the content at their end
abbrev pub content_before : List Epoch → List ℕ → List ℕ
content_before [] now = now
content_before (e ∷ epochs) now = started_with e.before e.writes.items (content_before epochs now)

-- a crash in one of these epochs might have left this
abbrev pub WasLeft : List Epoch → List ℕ → List ℕ → Type 0
WasLeft [] now c = ⊥
WasLeft (e ∷ epochs) now c = IsImage (content_before (e ∷ epochs) now) e.writes.items c ⊎ WasLeft epochs now c

-- a crash now may leave this
abbrev pub MayLeave : List Write → List ℕ → List ℕ → Type 0
MayLeave pending content c = IsImage (undone pending content) pending c

-- a crash since the start of epoch t might have left this
abbrev pub LeftSince : List Epoch → List Write → List ℕ → ℕ → List ℕ → Type 0
LeftSince past pending content t c = MayLeave pending content c ⊎ WasLeft (drop t past) (undone pending content) c

-- the same of moments that are counted on after so many that were forgotten, of which nothing is known
abbrev pub LeftAfter : ℕ → List Epoch → List Write → List ℕ → ℕ → List ℕ → Type 0
LeftAfter forgotten past pending content t c = (t < forgotten) ⊎ LeftSince past pending content (t - forgotten) c

-- the epoch of these writes is over and recorded; where there are none, none is
abbrev pub Closes : List Epoch → List Write → Before → List Epoch → Type 0
Closes past [] before past' = past' ≡ past
Closes past (w ∷ writes) before past' = (e : Epoch) × (past' ≡ past ++ e ∷ []) × (e.writes.items ≡ w ∷ writes) × (e.before ≡ before)
