-- The date of a moment, as a Date field shows it.
use Rattle.std.specs.Prelude.{ℕ, zero, suc, ◌+◌, ◌-◌, ◌/◌, ◌%◌, nat_lt, true, false}
use Rattle.txt_core.specs.Names.{Bytes, Moment}
use Rattle.txt_core.specs.Limits.{moment_of}
use Rattle.httpdate.specs.Calendar.{days_in_year, days_in_month, weekday}
use Rattle.httpdate.specs.Text.{imf_fixdate}
use Rattle.httpdate.specs.declared.parts.Parts.{Parts}

-- The year and the day of the year on which a day falls, told as years after 1970 and days after the
-- first of January: whole years are taken off the days. There are no more years than days, and so
-- many are tried at most.
unfoldable pub year_and_day : ℕ → ℕ → ℕ → ℕ × ℕ
year_and_day zero years days = (years, days)
year_and_day (suc most) years days =
    let this_year = days_in_year (1970 + years) in
    elim (nat_lt days this_year) [ true ↦ (years, days) | false ↦ year_and_day most (suc years) (days - this_year) ]

-- The month and the day of the month, told as months after January and days after the first: whole
-- months are taken off the days of the year, at most so many.
unfoldable pub month_and_day : ℕ → ℕ → ℕ → ℕ → ℕ × ℕ
month_and_day zero year months days = (months, days)
month_and_day (suc most) year months days =
    let this_month = days_in_month year (suc months) in
    elim (nat_lt days this_month) [ true ↦ (months, days) | false ↦ month_and_day most year (suc months) (days - this_month) ]

-- The calendar and the clock at a second since 1970, in UTC and without leap seconds.
abbrev pub parts_at : ℕ → Parts
parts_at second =
    let day = second / 86400 in
    let time = second % 86400 in
    let in_year = year_and_day day 0 day in
    let in_month = month_and_day 11 (1970 + in_year.0) 0 in_year.1 in
    record {
      year = 1970 + in_year.0;
      mon = in_month.0 + 1;
      day = in_month.1 + 1;
      hour = time / 3600;
      min = time % 3600 / 60;
      sec = time % 60;
      wday = weekday day;
    }

-- `Sun, 06 Nov 1994 08:49:37 GMT`, the one form in which a date is sent (RFC 9110, section 5.6.7)
unfoldable pub fixdate : Moment → Bytes
fixdate moment = imf_fixdate (parts_at (moment_of moment))
