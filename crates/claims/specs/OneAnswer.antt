-- "For every input, refused or not, the promise names one result and one content of all lent bytes; that no second answer meets it is proved".
-- A field for each promise that is a record; every other call's promise is one equation of its result. Assumes nothing.
use Rattle.std.specs.Prelude.{ℕ, ◌≡◌, List, Bool, Option, Result, ⊤}
use Rattle.parts.specs.Parts.{PutIs}
use Rattle.digits.specs.Decimal.{WrittenIs}
use Rattle.image.specs.declared.NotStored.{NotStored}
use Rattle.image.specs.Calls.{StoredIs, ClearedIs}
use Rattle.answers.specs.Packet.{PacketIs}
use Rattle.answers.specs.Oem.{OemPacketIs}
use Rattle.lines.specs.Lists.{HostList}
use Rattle.host.specs.declared.NotWritten.{NotWritten}
use Rattle.host.specs.Host.{LineIs}
use Rattle.older.specs.declared.Way.{Way}
use Rattle.older.specs.declared.Translated.{Translated}
use Rattle.older.specs.declared.NotTranslated.{NotTranslated}
use Rattle.older.specs.Items.{TranslatedIs}
use Rattle.frames.specs.declared.Progress.{Progress}
use Rattle.frames.specs.declared.Heard.{Heard}
use Rattle.frames.specs.Receive.{receiver_of, heard_with, receive_of}
use Rattle.drive.specs.declared.Record.{Record}
use Rattle.drive.specs.declared.StartRefused.{StartRefused}
use Rattle.drive.specs.declared.Fed.{Fed}
use Rattle.drive.specs.declared.FeedRefused.{FeedRefused}
use Rattle.drive.specs.declared.Turned.{Turned}
use Rattle.drive.specs.declared.TurnRefused.{TurnRefused}
use Rattle.drive.specs.Unit.{unit_of}
use Rattle.drive.specs.Calls.{start_of, feed_of}
use Rattle.drive.specs.Promises.{started_with, fed_with, TurnedIs}

-- an answer and what it leaves of lent bytes: no second pair meets the promise
abbrev pub Once : {A : Type 0} → (A → List ℕ → Type 0) → Type 0
Once {A} Is = (r s : A) (x y : List ℕ) → Is r x → Is s y → (r ≡ s) × (x ≡ y)

pub record OneAnswer : Type 0 where
  -- `parts::put_at`, `parts::wipe_at`
  pub put : (buffer : List ℕ) (at : ℕ) (bytes : List ℕ) → Once {A = Bool} (PutIs buffer at bytes)
  -- `digits::write_number`, `digits::write_bytes`, `digits::write_byte`, `commands::write_command`
  pub written : (buffer : List ℕ) (at : ℕ) (text : List ℕ) → Once {A = Option ℕ} (WrittenIs buffer at text)
  -- `image::store`, `image::clear`
  pub stored : (image : List ℕ) (slot : ℕ) (text : List ℕ) → Once {A = Result ⊤ NotStored} (StoredIs image slot text)
  pub cleared : (image : List ℕ) → Once {A = Bool} (ClearedIs image)
  -- `answers::write_packet`
  pub packet : (buffer : List ℕ) (status : ℕ) (bytes : List ℕ) → Once {A = Option ℕ} (PacketIs buffer status bytes)
  -- `answers::write_oem_packet`
  pub oem-packet : (buffer : List ℕ) (status : ℕ) (bytes : List ℕ) → Once {A = Option ℕ} (OemPacketIs buffer status bytes)
  -- `host::write_line`
  pub line : (l : HostList) (buffer : List ℕ) → Once {A = Result ℕ NotWritten} (LineIs l buffer)
  -- `older::into_ours`, `older::for_older`
  pub translated : (w : Way) (text buffer : List ℕ) → Once {A = Result Translated NotTranslated} (TranslatedIs w text buffer)
  -- `frames::receive`: the body
  pub heard : (p : Progress) (body : List ℕ) (unit : ℕ) (bytes : List ℕ)
      → Once {A = Heard} (λ h body'. heard_with h body' ≡ receive_of (receiver_of p body) unit bytes)
  -- `drive::start`: the two texts
  pub started : (number : ℕ) (image body text : List ℕ) {r s : Result Record StartRefused} {b c t v : List ℕ} → started_with r b t ≡ start_of number image body text
      → started_with s c v ≡ start_of number image body text → (r ≡ s) × (b ≡ c) × (t ≡ v)
  -- `drive::feed`: the two texts, the image and the answer buffer
  pub fed : (u : Record) (body text bytes image buffer : List ℕ) {r s : Result Fed FeedRefused} {b c t v x y k l : List ℕ}
      → fed_with u r b t x k ≡ feed_of (unit_of u body text) bytes image buffer → fed_with u s c v y l ≡ feed_of (unit_of u body text) bytes image buffer
      → (r ≡ s) × (b ≡ c) × (t ≡ v) × (x ≡ y) × (k ≡ l)
  -- `drive::turn`: the current text
  pub turned : (u : Record) (text : List ℕ) (sample ms steps : ℕ) (image : List ℕ) → Once {A = Result Turned TurnRefused} (TurnedIs u text sample ms steps image)
