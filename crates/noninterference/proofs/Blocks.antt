-- What one editor can depend on, the same on two chips with their stores.
use mathlib.Core.Path.{◌≡◌, refl, sym, ◌∙◌}
use mathlib.Core.Bool.{Bool, true}
use mathlib.Core.List.{List}
use Prim.Native.Nat.{ℕ}
use Rattle.editors.specs.declared.Editor.{Editor}
use Rattle.editors.specs.declared.Table.{Table}
use Rattle.sound.specs.declared.Channel.{Channel as Voice}
use Rattle.sound.specs.Line.{off_channel}
use Rattle.crtc.specs.declared.Video.{Video as Screen}
use Rattle.picture.specs.declared.sprite.Sprite.{Sprite as Figure}
use Rattle.picture.specs.Sprites.{off_sprite}
use Rattle.chip.specs.declared.Chip.{Chip}
use Rattle.chip.specs.State.{with_channels, with_sprites, with_palette, with_video}
use Rattle.registers.specs.declared.address.VideoRegister.TheVariants.{Pri}
use Rattle.registers.specs.declared.address.Register.TheVariants.{Pixel, Sprite, Palette, Video}
use Rattle.registers.specs.Owners.{owns, owns_channel}
use Rattle.noninterference.proofs.Sames.{Same, same_self, same_back, same-on}

-- by the owner of a register
abbrev pub has_sprite : Table → Editor → ℕ → Bool
has_sprite t e n = owns t e (Sprite n 0)

abbrev pub has_palette : Table → Editor → ℕ → Bool
has_palette t e i = owns t e (Palette i)

abbrev pub has_pixel : Table → Editor → ℕ → Bool
has_pixel t e i = owns t e (Pixel i)

abbrev pub has_screen : Table → Editor → Bool
has_screen t e = owns t e (Video Pri)

-- channels, sprites, palette bytes and pixels agree where they are the editor's, and the screen registers if they are; lock and
-- gate array agree
pub record Blocks (t : Table) (e : Editor) (c : Chip) (l : List ℕ) (d : Chip) (m : List ℕ) : Type 0 where
  pub gate : c.gate ≡ d.gate
  pub lock : c.lock ≡ d.lock
  pub channels : Same (owns_channel t e) off_channel c.sound.channels d.sound.channels
  pub sprites : Same (has_sprite t e) off_sprite c.sprites d.sprites
  pub palette : Same (has_palette t e) 0 c.palette d.palette
  pub video : has_screen t e ≡ true → c.video ≡ d.video
  pub pixels : Same (has_pixel t e) 0 l m

module _ {t : Table} {e : Editor} where
  pub blocks_self : (c : Chip) (l : List ℕ) → Blocks t e c l c l
  blocks_self c l =
      record {
        gate = refl;
        lock = refl;
        channels = same_self _;
        sprites = same_self _;
        palette = same_self _;
        video = λ h. refl;
        pixels = same_self _;
      }

  pub blocks-back : {c d : Chip} {l m : List ℕ} → Blocks t e c l d m → Blocks t e d m c l
  blocks-back v =
      record {
        gate = sym v.gate;
        lock = sym v.lock;
        channels = same_back v.channels;
        sprites = same_back v.sprites;
        palette = same_back v.palette;
        video = λ h. sym (v.video h);
        pixels = same_back v.pixels;
      }

  pub blocks-on : {c d f : Chip} {l m k : List ℕ} → Blocks t e c l d m → Blocks t e d m f k → Blocks t e c l f k
  blocks-on v r =
      record {
        gate = v.gate ∙ r.gate;
        lock = v.lock ∙ r.lock;
        channels = same-on v.channels r.channels;
        sprites = same-on v.sprites r.sprites;
        palette = same-on v.palette r.palette;
        video = λ h. v.video h ∙ r.video h;
        pixels = same-on v.pixels r.pixels;
      }

  -- chips that have the same parts as these
  pub blocks_as :
      {c d : Chip} {l m : List ℕ} (x y : Chip) → Blocks t e c l d m → x.gate ≡ y.gate → x.lock ≡ y.lock →
      Same (owns_channel t e) off_channel x.sound.channels y.sound.channels → x.sprites ≡ c.sprites → y.sprites ≡ d.sprites →
      x.palette ≡ c.palette → y.palette ≡ d.palette → x.video ≡ c.video → y.video ≡ d.video → Blocks t e x l y m
  blocks_as x y v i j k a b f g p q =
      record {
        gate = i;
        lock = j;
        channels = k;
        sprites = rw (a, b) v.sprites;
        palette = rw (f, g) v.palette;
        video = λ h. p ∙ v.video h ∙ sym q;
        pixels = v.pixels;
      }

  -- one part changed on either side
  module _ {c d : Chip} {l m : List ℕ} (v : Blocks t e c l d m) where
    pub on-channels : (x y : List Voice) → Same (owns_channel t e) off_channel x y → Blocks t e (with_channels c x) l (with_channels d y) m
    on-channels x y h =
        record {
          gate = v.gate;
          lock = v.lock;
          channels = h;
          sprites = v.sprites;
          palette = v.palette;
          video = v.video;
          pixels = v.pixels;
        }

    pub on-sprites : (x y : List Figure) → Same (has_sprite t e) off_sprite x y → Blocks t e (with_sprites c x) l (with_sprites d y) m
    on-sprites x y h =
        record {
          gate = v.gate;
          lock = v.lock;
          channels = v.channels;
          sprites = h;
          palette = v.palette;
          video = v.video;
          pixels = v.pixels;
        }

    pub on-palette : (x y : List ℕ) → Same (has_palette t e) 0 x y → Blocks t e (with_palette c x) l (with_palette d y) m
    on-palette x y h =
        record {
          gate = v.gate;
          lock = v.lock;
          channels = v.channels;
          sprites = v.sprites;
          palette = h;
          video = v.video;
          pixels = v.pixels;
        }

    pub on-video : (x y : Screen) → (has_screen t e ≡ true → x ≡ y) → Blocks t e (with_video c x) l (with_video d y) m
    on-video x y h =
        record {
          gate = v.gate;
          lock = v.lock;
          channels = v.channels;
          sprites = v.sprites;
          palette = v.palette;
          video = h;
          pixels = v.pixels;
        }

    pub on-pixels : (x y : List ℕ) → Same (has_pixel t e) 0 x y → Blocks t e c x d y
    on-pixels x y h =
        record {
          gate = v.gate;
          lock = v.lock;
          channels = v.channels;
          sprites = v.sprites;
          palette = v.palette;
          video = v.video;
          pixels = h;
        }
