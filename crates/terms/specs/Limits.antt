-- Every limit, once. src/limits.rt has the same numbers for the code, and its `all_limits` ties the two.
use Rattle.std.specs.Prelude.{ℕ, ◌+◌, ◌-◌, ◌*◌, ◌/◌}
use Rattle.terms.specs.declared.limits.Limits.{Limits}

-- the most sounds of a phrase, and of a figure
abbrev pub longest_phrase : ℕ
longest_phrase = 64

abbrev pub longest_figure : ℕ
longest_figure = 8

-- the most marks of a row, and the depth of a tree with so many leaves
abbrev pub widest_row : ℕ
widest_row = 2 * longest_phrase

abbrev pub depth_of_row : ℕ
depth_of_row = 7

-- the different runs of up to the longest figure in the longest phrase
abbrev pub most_states : ℕ
most_states = 1 + longest_figure * longest_phrase - longest_figure * (longest_figure - 1) / 2

-- the numbers that a sliding reader has in its table
abbrev pub most_numbers : ℕ
most_numbers = 4096

-- the answers that the lamp looks back on, and the depth of a tree with so many leaves
abbrev pub lamp_length : ℕ
lamp_length = 32

abbrev pub depth_of_lamp : ℕ
depth_of_lamp = 5

-- the most steps of a take, and of a take in a sheet
abbrev pub longest_take : ℕ
longest_take = 1000000

abbrev pub longest_listed : ℕ
longest_listed = 16384

-- the most bytes of a step in a sheet, the bytes of a sheet's fields, and the most bytes of a sheet
abbrev pub widest_step : ℕ
widest_step = 3

abbrev pub bytes_of_fields : ℕ
bytes_of_fields = 8

abbrev pub longest_sheet : ℕ
longest_sheet = bytes_of_fields + widest_step * (longest_phrase + longest_listed)

abbrev pub all_limits_lem : Limits
all_limits_lem = record {
  phrase = longest_phrase;
  figure = longest_figure;
  row = widest_row;
  row_depth = depth_of_row;
  states = most_states;
  numbers = most_numbers;
  lamp = lamp_length;
  lamp_depth = depth_of_lamp;
  played = longest_take;
  listed = longest_listed;
  step_bytes = widest_step;
  field_bytes = bytes_of_fields;
  sheet_bytes = longest_sheet;
}
