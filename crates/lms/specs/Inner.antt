-- What only inner contracts cite.
use Rattle.std.specs.Prelude.{◌≡◌, ◌-◌, ◌*◌, ◌/◌, ◌%◌, ◌^◌, ◌<◌}
use Rattle.lms.specs.declared.Ots.{Ots}

-- RFC 8554, section 4.1 and appendix B: what each row of Table 1 has. Digits do not cross bytes; the p digits are all of the 32 + 2 bytes
-- but the last ls bits; the greatest sum, shifted by ls, fits two bytes. The greatest height of Table 2 is 25.
pub record Row (o : Ots) : Type 0 where
  pub w_some : 0 < o.w
  pub w_divides : 8 % o.w ≡ 0
  pub digits_fill : o.p * o.w ≡ 272 - o.ls
  pub sum_fits : 256 / o.w * (2 ^ o.w - 1) * 2 ^ o.ls < 65536
